use Rattle.std.proofs.Common.{◌≡◌, [], ◌∷◌, ◌++◌, map, take}
use Rattle.al_plain.proofs.join.with_each.Given as goal

abbrev pub invariant-loop-v : goal.invariant-loop-v
invariant-loop-v l = l.made ≡ map (λ x. l.row ++ x ∷ []) (take l.v-index l.values)
