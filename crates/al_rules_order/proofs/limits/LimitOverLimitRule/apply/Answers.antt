use Rattle.al_rules_order.specs.OrderRules as meaning
use Rattle.al_rules_order.specs.Shown as shown
use Rattle.al_rules_order.proofs.Finding.{refined}
use Rattle.al_rules_order.proofs.limits.LimitOverLimitRule.apply.Goals as goal

pub returns-clause-refines : goal.returns-clause-refines
returns-clause-refines c = refined meaning.LimitOverLimit shown.limit_over_limit c.args.p c.one_limit-made.result c.one_limit-made.ensures c.outcome.result c.outcome.ensures
