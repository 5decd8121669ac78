use Rattle.std.proofs.Common.{◌≡◌, map, take}
use Rattle.al_plan.specs.Eval.{bind, eval}
use Rattle.al_plain.proofs.call.column.Given as goal

abbrev pub invariant-loop-row : goal.invariant-loop-row
invariant-loop-row l = l.values ≡ map (eval l.e) (map (bind l.vars) (take l.row-index l.rows))
