use Rattle.std.proofs.Common.{◌≡◌, true, take}
use Rattle.al_plan.specs.Accept as spec
use Rattle.al_infer.proofs.names.are_among.Given as goal

abbrev pub invariant-loop-v : goal.invariant-loop-v
invariant-loop-v l = spec.are_among l.vars (take l.v-index l.listed) ≡ true
