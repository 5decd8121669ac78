use Rattle.std.proofs.Common.{◌≡◌, flat_map, take}
use Rattle.hy_job.specs.Columns.{expanded}
use Rattle.hy_job.proofs.rows.expand_rows.Given as goal

abbrev pub invariant-loop-row : goal.invariant-loop-row
invariant-loop-row l = l.longer ≡ flat_map (expanded l.g) (take l.row-index l.rows)
