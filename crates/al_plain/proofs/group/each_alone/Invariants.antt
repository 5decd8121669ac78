use Rattle.std.proofs.Common.{◌≡◌, map, take}
use Rattle.al_plain.specs.Groups.{alone}
use Rattle.al_plain.proofs.group.each_alone.Given as goal

abbrev pub invariant-loop-row : goal.invariant-loop-row
invariant-loop-row l = l.bunches ≡ map alone (take l.row-index l.rows)
