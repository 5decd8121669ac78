use Rattle.std.proofs.Common.{◌≡◌, ◌++◌, take}
use Rattle.al_plain.proofs.rows.joined_row.Given as goal

abbrev pub invariant-loop-v : goal.invariant-loop-v
invariant-loop-v l = l.row ≡ l.left ++ take l.v-index l.right
