use Rattle.std.proofs.Common.{◌≡◌, map, take}
use Rattle.al_plan.specs.Eval as spec
use Rattle.al_plain.proofs.expr.+evaluate.Given as goal

abbrev pub invariant-eval_args-loop-e : goal.invariant-eval_args-loop-e
invariant-eval_args-loop-e l = l.values ≡ map (λ e. spec.eval e (spec.bind l.vars l.row)) (take l.e-index l.args)
