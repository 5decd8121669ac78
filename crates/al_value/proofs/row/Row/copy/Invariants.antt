use Rattle.std.proofs.Common.{◌≡◌, take}
use Rattle.al_value.proofs.row.Row.copy.Given as goal

abbrev pub invariant-loop-v : goal.invariant-loop-v
invariant-loop-v l = l.values ≡ take l.v-index l.v-items
