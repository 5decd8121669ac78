use Rattle.std.proofs.Common.{◌≡◌, map, take}
use Rattle.al_plain.specs.Groups.{group_at}
use Rattle.al_plain.proofs.group.groups_of.Given as goal

abbrev pub invariant-loop-key : goal.invariant-loop-key
invariant-loop-key l = l.groups ≡ map (group_at l.keys l.vars l.rows) (take l.key-index l.key-items)
