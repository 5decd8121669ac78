use Rattle.std.proofs.Common.{◌≡◌, take}
use Rattle.hy_job.specs.Columns.{cut, key_hash}
use Rattle.hy_driver.specs.Rows.{values_of}
use Rattle.hy_connect.proofs.route.part.Given as goal

abbrev pub invariant-loop-column : goal.invariant-loop-column
invariant-loop-column l = l.hash ≡ key_hash 0 (cut (take l.column-index l.columns) (values_of l.row))
