use Rattle.std.proofs.Common.{◌≡◌, List, length}
use Rattle.hy_job.specs.Columns.{Row}
use Rattle.hy_job.specs.States.{AreStates}
use Rattle.hy_job.proofs.StateLaws.{AreMixed}
use Rattle.hy_job.proofs.states.add_row.Given as goal

abbrev pub invariant-loop-j : goal.invariant-loop-j
invariant-loop-j l = (length l.states.items ≡ length l.made) × ((rows : List Row) → AreStates l.made rows l.initial.states.items → AreMixed l.j l.made rows l.row l.states.items)
