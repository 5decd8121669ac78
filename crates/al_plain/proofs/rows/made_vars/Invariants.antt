use Rattle.std.proofs.Common.{◌≡◌, map, take}
use Rattle.al_plain.proofs.rows.made_vars.Given as goal

abbrev pub invariant-loop-v : goal.invariant-loop-v
invariant-loop-v g l = l.vars ≡ map (λ m. m.0) (take l.v-index l.made)
