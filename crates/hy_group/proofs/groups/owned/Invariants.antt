use Rattle.std.proofs.Common.{◌≡◌, take}
use Rattle.hy_group.proofs.groups.owned.Given as goal

abbrev pub invariant-loop-v : goal.invariant-loop-v
invariant-loop-v l = l.copy.items ≡ take l.v-index l.key
