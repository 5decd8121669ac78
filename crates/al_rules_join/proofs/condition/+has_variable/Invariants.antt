use Rattle.std.proofs.Common.{◌≡◌, take, true, false}
use Rattle.std.specs.List.{flat_map, list_any}
use Rattle.al_plan.specs.Names.{names}
use Rattle.al_rules_join.proofs.condition.+has_variable.Given as goal

abbrev pub invariant-any_has_variable-loop-e : goal.invariant-any_has_variable-loop-e
invariant-any_has_variable-loop-e l = list_any (λ q. true) (flat_map names (take l.e-index l.fn.args)) ≡ false
