use Rattle.std.proofs.Common.{◌≡◌, true, take}
use Rattle.std.specs.List.{list_all}
use Rattle.al_plan.specs.Eval.{bind, holds}
use Rattle.al_plain.proofs.rows.all_hold.Given as goal

abbrev pub invariant-loop-row : goal.invariant-loop-row
invariant-loop-row l = list_all (λ r. holds l.cond (bind l.vars r)) (take l.row-index l.rows) ≡ true
