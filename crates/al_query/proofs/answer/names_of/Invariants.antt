use Rattle.std.proofs.Common.{◌≡◌, map, take}
use Rattle.al_query.proofs.answer.names_of.Given as goal

abbrev pub invariant-loop-v : goal.invariant-loop-v
invariant-loop-v l = l.names ≡ map (λ v. v.name) (take l.v-index l.vars)
