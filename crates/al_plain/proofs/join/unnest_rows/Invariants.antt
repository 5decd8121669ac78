use Rattle.std.proofs.Common.{◌≡◌, flat_map, take}
use Rattle.al_plain.specs.Rows.{expanded_row}
use Rattle.al_plain.proofs.join.unnest_rows.Given as goal

abbrev pub invariant-loop-row : goal.invariant-loop-row
invariant-loop-row l = l.made ≡ flat_map (expanded_row l.generator l.vars) (take l.row-index l.rows)
