use Rattle.std.proofs.Common.{◌≡◌, map, take}
use Rattle.al_plan.specs.Calls.{agg_call}
use Rattle.al_plan.specs.Eval.{bind}
use Rattle.al_plain.proofs.call.agg_row.Given as goal

abbrev pub invariant-loop-call : goal.invariant-loop-call
invariant-loop-call l = l.row ≡ map (λ m. agg_call m.1 (map (bind l.vars) l.rows)) (take l.call-index l.made)
