use Rattle.std.proofs.Common.{◌≡◌, take, map, length}
use Rattle.hy_driver.specs.Rows.{values_of}
use Rattle.hy_job.specs.Columns.{column}
use Rattle.hy_rows.proofs.rows.put_cut.Given as goal

abbrev pub invariant-loop-j : goal.invariant-loop-j
invariant-loop-j l = (values_of l.out ≡ map (column (values_of l.row)) (take l.j-index l.columns)) × (length l.out ≡ l.j-index)
