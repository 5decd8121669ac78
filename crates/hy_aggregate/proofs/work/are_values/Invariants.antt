use Rattle.std.proofs.Common.{take}
use Rattle.hy_driver.specs.Rows.{AreValues}
use Rattle.hy_aggregate.proofs.work.are_values.Given as goal

abbrev pub invariant-loop-v : goal.invariant-loop-v
invariant-loop-v l = AreValues (take l.v-index l.row)
