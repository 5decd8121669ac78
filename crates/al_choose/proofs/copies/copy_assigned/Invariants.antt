use Rattle.std.proofs.Common.{◌≡◌, take}
use Rattle.al_choose.proofs.copies.copy_assigned.Given as goal

abbrev pub invariant-loop-v : goal.invariant-loop-v
invariant-loop-v l = l.copies ≡ take l.v-index l.made
