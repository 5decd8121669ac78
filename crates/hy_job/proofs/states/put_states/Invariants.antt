use Rattle.std.proofs.Common.{◌≡◌, ◌++◌, List, take}
use Rattle.hy_job.specs.declared.nested.AggRex.{AggRex}
use Rattle.hy_job.specs.Columns.{Row, state_row}
use Rattle.hy_job.specs.States.{AreStates}
use Rattle.hy_job.proofs.states.put_states.Given as goal

abbrev pub invariant-loop-part : goal.invariant-loop-part
invariant-loop-part l = (made : List AggRex) (rows : List Row) → AreStates made rows (take l.part-index l.states) → l.out ≡ l.initial.out ++ state_row made rows
