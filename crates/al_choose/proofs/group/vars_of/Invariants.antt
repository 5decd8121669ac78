use Rattle.std.proofs.Common.{◌≡◌, map, take}
use Rattle.al_choose.proofs.group.vars_of.Given as goal

abbrev pub invariant-loop-key : goal.invariant-loop-key
invariant-loop-key l = l.vars ≡ map (λ k. k.var) (take l.key-index l.keys)
