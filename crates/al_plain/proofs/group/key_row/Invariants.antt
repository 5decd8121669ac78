use Rattle.std.proofs.Common.{◌≡◌, map, take}
use Rattle.al_plan.specs.Eval.{bind}
use Rattle.al_plain.proofs.group.key_row.Given as goal

abbrev pub invariant-loop-old : goal.invariant-loop-old
invariant-loop-old l = l.key ≡ map (λ k. bind l.vars l.row k.1.name) (take l.old-index l.keys)
