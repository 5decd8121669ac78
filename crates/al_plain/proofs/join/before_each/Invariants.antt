use Rattle.std.proofs.Common.{◌≡◌, ◌++◌, map, take}
use Rattle.al_plain.proofs.join.before_each.Given as goal

abbrev pub invariant-loop-other : goal.invariant-loop-other
invariant-loop-other l = l.made ≡ map (λ r. l.row ++ r) (take l.other-index l.more)
