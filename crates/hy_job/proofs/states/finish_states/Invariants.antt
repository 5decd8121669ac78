use Rattle.std.proofs.Common.{◌≡◌, List}
use Rattle.hy_job.specs.declared.nested.AggRex.{AggRex}
use Rattle.hy_job.specs.Columns.{Row, agg_row}
use Rattle.hy_job.specs.States.{AreStates}
use Rattle.hy_job.proofs.states.finish_states.Given as goal

abbrev pub invariant-loop-part : goal.invariant-loop-part
invariant-loop-part l = (made : List AggRex) (rows : List Row) → AreStates made rows l.yielded → l.row ≡ agg_row made rows
