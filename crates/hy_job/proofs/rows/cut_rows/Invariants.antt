use Rattle.std.proofs.Common.{◌≡◌, map, take}
use Rattle.hy_job.specs.Columns.{cut}
use Rattle.hy_job.proofs.rows.cut_rows.Given as goal

abbrev pub invariant-loop-row : goal.invariant-loop-row
invariant-loop-row l = l.cuts ≡ map (cut l.columns) (take l.row-index l.rows)
