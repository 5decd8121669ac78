use Rattle.std.proofs.Common.{[]}
use Rattle.hy_sort_tests.proofs.sorts.building.Goals as goal

pub returns-clause-phase : goal.returns-clause-phase
returns-clause-phase c = (c.new.ensures.new [] 1 [] []).phase

pub returns-clause-to_come : goal.returns-clause-to_come
returns-clause-to_come c = c.new.ensures.input 0
