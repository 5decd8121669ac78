use Rattle.std.proofs.Common.{◌≡◌, map, take}
use Rattle.hy_job.specs.Columns.{column}
use Rattle.hy_job.proofs.rows.cut.Given as goal

abbrev pub invariant-loop-j : goal.invariant-loop-j
invariant-loop-j l = l.cut ≡ map (column l.row) (take l.j-index l.columns)
