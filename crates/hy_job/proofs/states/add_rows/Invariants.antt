use Rattle.std.proofs.Common.{◌≡◌, ◌++◌, List, length, take}
use Rattle.hy_job.specs.Columns.{Row}
use Rattle.hy_job.specs.States.{AreStates}
use Rattle.hy_job.proofs.states.add_rows.Given as goal

abbrev pub invariant-loop-row : goal.invariant-loop-row
invariant-loop-row l = (length l.states.items ≡ length l.made) × ((rows : List Row) → AreStates l.made rows l.initial.states.items → AreStates l.made (rows ++ take l.row-index l.more) l.states.items)
