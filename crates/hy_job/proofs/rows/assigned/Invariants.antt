use Rattle.std.proofs.Common.{◌≡◌, ◌++◌}
use Rattle.hy_job.proofs.rows.assigned.Given as goal

abbrev pub invariant-loop-v : goal.invariant-loop-v
invariant-loop-v l = l.longer ≡ l.fn.row ++ l.yielded
