use Rattle.std.proofs.Common.{◌≡◌, length, map}
use Rattle.std.specs.List.{All}
use Rattle.hy_job.specs.Columns.{assigned}
use Rattle.hy_job.specs.Sound.{AreSound}
use Rattle.hy_job.proofs.rows.assign_rows.Given as goal

abbrev pub invariant-loop-row : goal.invariant-loop-row
invariant-loop-row l = record { made : l.longer ≡ map (assigned l.made) l.yielded; fits : All (λ row. AreSound (length row) l.made) l.row-iterator.rest.items }
