use Rattle.std.proofs.Common.{◌≡◌, take}
use Rattle.al_jobgen.specs.JobOf.{state_width}
use Rattle.al_jobgen.proofs.operators.state_width.Given as goal

abbrev pub invariant-loop-a : goal.invariant-loop-a
invariant-loop-a l = l.fields ≡ state_width (take l.a-index l.aggs)
