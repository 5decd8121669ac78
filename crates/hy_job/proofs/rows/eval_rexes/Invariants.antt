use Rattle.std.proofs.Common.{◌≡◌, map, take}
use Rattle.al_func.specs.Rex.{eval_rex}
use Rattle.hy_job.proofs.rows.eval_rexes.Given as goal

abbrev pub invariant-loop-e : goal.invariant-loop-e
invariant-loop-e l = l.values ≡ map (λ e. eval_rex e l.row) (take l.e-index l.exprs)
