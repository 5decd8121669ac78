use Rattle.std.proofs.Common.{length}
use Rattle.hy_rows.proofs.order.+cmp_rows.Given as goal

abbrev pub decreases-cmp_rows : goal.decreases-cmp_rows
decreases-cmp_rows l = length l.keys.now
