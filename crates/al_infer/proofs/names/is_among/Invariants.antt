use Rattle.std.proofs.Common.{◌≡◌, false, take}
use Rattle.al_plan.specs.Allows as live
use Rattle.al_infer.proofs.names.is_among.Given as goal

abbrev pub invariant-loop-v : goal.invariant-loop-v
invariant-loop-v l = live.is_among (take l.v-index l.vars) l.name ≡ false
