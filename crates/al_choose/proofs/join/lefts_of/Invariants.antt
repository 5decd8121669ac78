use Rattle.std.proofs.Common.{◌≡◌, map, take}
use Rattle.al_choose.proofs.join.lefts_of.Given as goal

abbrev pub invariant-loop-left : goal.invariant-loop-left
invariant-loop-left l = l.lefts ≡ map (λ k. k.0) (take l.left-index l.keys)
