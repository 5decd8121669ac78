use Rattle.std.proofs.Common.{◌≡◌, flat_map, take}
use Rattle.al_plain.specs.Rows.{pairs_or_padded}
use Rattle.al_plain.proofs.join.left_join_rows.Given as goal

abbrev pub invariant-loop-row : goal.invariant-loop-row
invariant-loop-row l = l.made ≡ flat_map (pairs_or_padded l.cond l.both l.right_vars l.right) (take l.row-index l.left)
