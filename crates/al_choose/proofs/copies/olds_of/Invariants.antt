use Rattle.std.proofs.Common.{◌≡◌, map, take}
use Rattle.al_choose.proofs.copies.olds_of.Given as goal

abbrev pub invariant-loop-old : goal.invariant-loop-old
invariant-loop-old l = l.olds ≡ map (λ k. k.1) (take l.old-index l.keys)
