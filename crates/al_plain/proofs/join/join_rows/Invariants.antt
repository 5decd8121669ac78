use Rattle.std.proofs.Common.{◌≡◌, flat_map, take}
use Rattle.al_plain.specs.Rows.{pairs_of}
use Rattle.al_plain.proofs.join.join_rows.Given as goal

abbrev pub invariant-loop-row : goal.invariant-loop-row
invariant-loop-row l = l.made ≡ flat_map (pairs_of l.cond l.both l.right) (take l.row-index l.left)
