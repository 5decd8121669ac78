use Rattle.std.proofs.Common.{◌≡◌, ◌++◌, filter, map, take}
use Rattle.al_plan.specs.Eval.{bind, holds}
use Rattle.al_plain.proofs.join.pairs_of.Given as goal

abbrev pub invariant-loop-other : goal.invariant-loop-other
invariant-loop-other l = l.pairs ≡ filter (λ row. holds l.cond (bind l.both row)) (map (λ r. l.left ++ r) (take l.other-index l.right))
