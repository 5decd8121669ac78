use Rattle.std.proofs.Common.{◌≡◌, filter, length}
use Rattle.std.specs.List.{All}
use Rattle.al_func.specs.Rex.{IsSound}
use Rattle.hy_job.specs.Columns.{holds}
use Rattle.hy_job.proofs.rows.select_rows.Given as goal

abbrev pub invariant-loop-row : goal.invariant-loop-row
invariant-loop-row l = record { made : l.kept ≡ filter (holds l.cond) l.yielded; fits : All (λ row. IsSound (length row) l.cond) l.row-iterator.rest.items }
