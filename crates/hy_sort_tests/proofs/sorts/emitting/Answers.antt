use Rattle.std.proofs.Common.{[]}
use Rattle.hy_sort_tests.proofs.sorts.emitting.Goals as goal

pub returns-clause-phase : goal.returns-clause-phase
returns-clause-phase c = (c.new.ensures.new 1 []).phase
