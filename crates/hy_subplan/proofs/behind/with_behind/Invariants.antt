use Rattle.std.proofs.Common.{◌≡◌, ◌++◌, take}
use Rattle.hy_subplan.proofs.behind.with_behind.Given as goal

abbrev pub invariant-loop-v : goal.invariant-loop-v
invariant-loop-v l = l.longer ≡ l.fn.row ++ take l.v-index l.more
