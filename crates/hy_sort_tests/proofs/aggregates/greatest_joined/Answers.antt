use Rattle.std.proofs.Common.{[], ap}
use Rattle.hy_driver.specs.Seen.{Fixed}
use Rattle.hy_sort_tests.proofs.aggregates.greatest_joined.Goals as goal

pub returns-in-Ok-clause-one : goal.returns-in-Ok-clause-one
returns-in-Ok-clause-one c = record { width = ap (λ (f : Fixed). f.width 0) c.in-Ok.ensures.made }

pub returns-in-Ok-clause-phase : goal.returns-in-Ok-clause-phase
returns-in-Ok-clause-phase c = (c.in-Ok.ensures.new 1 [] []).phase

pub returns-in-Ok-clause-to_come : goal.returns-in-Ok-clause-to_come
returns-in-Ok-clause-to_come c = c.in-Ok.ensures.input 0
