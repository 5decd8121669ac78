use Rattle.std.proofs.Common.{◌≡◌, ◌++◌, take}
use Rattle.hy_join.proofs.fields.put_both.Given as goal

abbrev pub invariant-loop-j : goal.invariant-loop-j
invariant-loop-j l = l.out ≡ l.left ++ take l.j l.right
