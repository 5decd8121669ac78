use Rattle.std.proofs.Common.{◌≡◌, map, take}
use Rattle.al_plain.specs.Rows.{assigned_row}
use Rattle.al_plain.proofs.rows.assign_rows.Given as goal

abbrev pub invariant-loop-row : goal.invariant-loop-row
invariant-loop-row l = l.longer ≡ map (assigned_row l.made l.vars) (take l.row-index l.rows)
