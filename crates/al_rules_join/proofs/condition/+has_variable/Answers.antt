use Rattle.std.proofs.Common.{rules, ◌≡◌, sym, get_or, true}
use Rattle.std.specs.List.{list_any}
use Rattle.al_plan.specs.Names.{names}
use Rattle.al_rules_join.proofs.ConditionLaws.{some_arg}
use Rattle.al_rules_join.proofs.condition.+has_variable.Goals as goal

pub any_has_variable-returns-then-has_variable : goal.any_has_variable-returns-then-has_variable
any_has_variable-returns-then-has_variable t c =
    let hit : list_any (λ q. true) (names (get_or c.args.args.now c.loop-e.e-index c.e-item.result)) ≡ true = search rules in
    sym (some_arg c.args.args.now c.loop-e.e-index c.e-item.result c.loop-e-test.true hit)
