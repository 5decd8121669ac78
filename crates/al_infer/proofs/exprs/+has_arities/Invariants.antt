use Rattle.std.proofs.Common.{◌≡◌, true, take}
use Rattle.std.specs.List.{list_all}
use Rattle.al_plan.specs.Names as names
use Rattle.al_infer.proofs.exprs.+has_arities.Given as goal

abbrev pub invariant-args_have_arities-loop-e : goal.invariant-args_have_arities-loop-e
invariant-args_have_arities-loop-e l = list_all names.has_arities (take l.e-index l.args) ≡ true
