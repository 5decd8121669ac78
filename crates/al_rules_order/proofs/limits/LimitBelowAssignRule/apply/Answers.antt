use Rattle.al_rules_order.specs.OrderRules as meaning
use Rattle.al_rules_order.specs.Shown as shown
use Rattle.al_rules_order.proofs.Finding.{refined}
use Rattle.al_rules_order.proofs.limits.LimitBelowAssignRule.apply.Goals as goal

pub returns-clause-refines : goal.returns-clause-refines
returns-clause-refines c = refined meaning.LimitBelowAssign shown.limit_below_assign c.args.p c.assign_of_limit-made.result c.assign_of_limit-made.ensures c.outcome.result c.outcome.ensures
