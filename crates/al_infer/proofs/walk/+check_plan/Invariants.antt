use Rattle.std.proofs.Common.{◌+◌, ◌*◌}
use Rattle.al_plan.specs.Accept as spec
use Rattle.al_infer.proofs.walk.+check_plan.Given as goal

abbrev pub decreases-check_inputs : goal.decreases-check_inputs
decreases-check_inputs l = 2 * spec.size l.op.now

abbrev pub decreases-check_plan : goal.decreases-check_plan
decreases-check_plan l = 2 * spec.size l.plan.now + 1
