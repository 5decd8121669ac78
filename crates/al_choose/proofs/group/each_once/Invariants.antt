use Rattle.std.proofs.Common.{◌≡◌, [], map, take}
use Rattle.al_plan.specs.Uses.{with_names}
use Rattle.al_choose.proofs.group.each_once.Given as goal

abbrev pub invariant-loop-v : goal.invariant-loop-v
invariant-loop-v l = l.once ≡ with_names [] (map (λ v. v.name) (take l.v-index l.vars))
