use Rattle.std.proofs.Common.{[], take}
use Rattle.hy_job.specs.States.{AreStates}
use Rattle.hy_job.proofs.states.start_states.Given as goal

abbrev pub invariant-loop-call : goal.invariant-loop-call
invariant-loop-call l = AreStates (take l.call-index l.made) [] l.states.items
