use Rattle.std.proofs.Common.{◌≡◌, map, take}
use Rattle.al_infer.proofs.live.firsts.Given as goal

abbrev pub invariant-loop-v : goal.invariant-loop-v
invariant-loop-v g l = l.vars ≡ map (λ p. p.0) (take l.v-index l.pairs)
