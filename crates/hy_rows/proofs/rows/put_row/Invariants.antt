use Rattle.std.proofs.Common.{◌≡◌, take, length}
use Rattle.hy_driver.specs.Rows.{values_of}
use Rattle.hy_rows.proofs.rows.put_row.Given as goal

abbrev pub invariant-loop-v : goal.invariant-loop-v
invariant-loop-v l = (values_of l.out ≡ take l.v-index l.row) × (length l.out ≡ l.v-index)
