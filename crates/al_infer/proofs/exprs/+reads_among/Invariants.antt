use Rattle.std.proofs.Common.{◌≡◌, ◌++◌, true, take}
use Rattle.std.specs.List.{list_all}
use Rattle.al_plan.specs.Accept as spec
use Rattle.al_infer.proofs.exprs.+reads_among.Given as goal

abbrev pub invariant-args_read_among-loop-e : goal.invariant-args_read_among-loop-e
invariant-args_read_among-loop-e l = list_all (spec.reads_among (l.left ++ l.right)) (take l.e-index l.args) ≡ true
