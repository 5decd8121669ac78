use Rattle.std.proofs.Common.{length}
use Rattle.al_plain.proofs.order.+cmp_keys.Given as goal

abbrev pub decreases-cmp_keys : goal.decreases-cmp_keys
decreases-cmp_keys l = length l.keys.now
