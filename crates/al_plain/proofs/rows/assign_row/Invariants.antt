use Rattle.std.proofs.Common.{◌≡◌, ◌++◌, map, take}
use Rattle.al_plan.specs.Eval.{bind, eval}
use Rattle.al_plain.proofs.rows.assign_row.Given as goal

abbrev pub invariant-loop-e : goal.invariant-loop-e
invariant-loop-e l = l.longer ≡ l.row ++ map (λ m. eval m.1 (bind l.vars l.row)) (take l.e-index l.made)
