use Rattle.std.proofs.Common.{◌≡◌, map, take}
use Rattle.al_plain.specs.Groups.{key_cells}
use Rattle.al_plain.proofs.group.key_rows.Given as goal

abbrev pub invariant-loop-row : goal.invariant-loop-row
invariant-loop-row l = l.found ≡ map (key_cells l.keys l.vars) (take l.row-index l.rows)
