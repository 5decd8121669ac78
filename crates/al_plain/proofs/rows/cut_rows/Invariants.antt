use Rattle.std.proofs.Common.{◌≡◌, map, take}
use Rattle.al_plain.specs.Rows.{values_of}
use Rattle.al_plain.proofs.rows.cut_rows.Given as goal

abbrev pub invariant-loop-row : goal.invariant-loop-row
invariant-loop-row l = l.cut ≡ map (values_of l.out l.vars) (take l.row-index l.rows)
