use Rattle.std.proofs.Common.{length}
use Rattle.hy_job.proofs.sort.+cmp_keys.Given as goal

abbrev pub decreases-cmp_keys : goal.decreases-cmp_keys
decreases-cmp_keys l = length l.keys.now
