use Rattle.std.proofs.Common.{◌≡◌, map, take}
use Rattle.al_func.specs.Rex as spec
use Rattle.hy_driver.specs.Rows.{values_of}
use Rattle.hy_join.proofs.residual.+value_over.Given as goal

abbrev pub invariant-args_over-loop-e : goal.invariant-args_over-loop-e
invariant-args_over-loop-e l = l.values ≡ map (λ e. spec.eval_rex e (values_of l.row)) (take l.e-index l.args)
