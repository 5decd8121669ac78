use Rattle.al_plan.specs.Accept as spec
use Rattle.al_infer.proofs.inputs.+size.Given as goal

abbrev pub decreases-size : goal.decreases-size
decreases-size l = spec.size l.plan.now
