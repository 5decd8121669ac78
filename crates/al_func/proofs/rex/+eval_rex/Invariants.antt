use Rattle.std.proofs.Common.{◌≡◌, map, take}
use Rattle.al_func.specs.Rex as spec
use Rattle.al_func.proofs.rex.+eval_rex.Given as goal

abbrev pub invariant-eval_args-loop-e : goal.invariant-eval_args-loop-e
invariant-eval_args-loop-e l = l.values ≡ map (λ e. spec.eval_rex e l.row) (take l.e-index l.args)
