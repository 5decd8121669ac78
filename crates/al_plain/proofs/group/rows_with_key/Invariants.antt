use Rattle.std.proofs.Common.{◌≡◌, filter, take}
use Rattle.al_plain.specs.Groups.{has_key}
use Rattle.al_plain.proofs.group.rows_with_key.Given as goal

abbrev pub invariant-loop-row : goal.invariant-loop-row
invariant-loop-row l = l.members ≡ filter (has_key l.keys l.vars l.key) (take l.row-index l.rows)
