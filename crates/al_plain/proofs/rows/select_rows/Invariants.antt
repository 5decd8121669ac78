use Rattle.std.proofs.Common.{◌≡◌, filter, take}
use Rattle.al_plan.specs.Eval.{bind, holds}
use Rattle.al_plain.proofs.rows.select_rows.Given as goal

abbrev pub invariant-loop-row : goal.invariant-loop-row
invariant-loop-row l = l.kept ≡ filter (λ r. holds l.cond (bind l.vars r)) (take l.row-index l.rows)
