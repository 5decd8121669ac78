use Rattle.std.proofs.Common.{[], ap}
use Rattle.hy_driver.specs.Seen.{Fixed}
use Rattle.hy_sort_tests.proofs.ReadyLaws.{one_sound}
use Rattle.hy_sort_tests.proofs.aggregates.greatest.Goals as goal

pub new-requires-clause-in_range : goal.new-requires-clause-in_range
new-requires-clause-in_range c = one_sound c.push.new.self c.new-made.result c.new-made.ensures c.in_ok-push.ensures.ok

pub returns-in-Ok-clause-one : goal.returns-in-Ok-clause-one
returns-in-Ok-clause-one c = record { width = ap (λ (f : Fixed). f.width 0) c.in-Ok.ensures.made }

pub returns-in-Ok-clause-phase : goal.returns-in-Ok-clause-phase
returns-in-Ok-clause-phase c = (c.in-Ok.ensures.new 1 [] []).phase

pub returns-in-Ok-clause-to_come : goal.returns-in-Ok-clause-to_come
returns-in-Ok-clause-to_come c = c.in-Ok.ensures.input 0
