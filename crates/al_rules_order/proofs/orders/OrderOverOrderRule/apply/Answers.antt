use Rattle.al_rules_order.specs.OrderRules as meaning
use Rattle.al_rules_order.specs.Shown as shown
use Rattle.al_rules_order.proofs.Finding.{refined}
use Rattle.al_rules_order.proofs.orders.OrderOverOrderRule.apply.Goals as goal

pub returns-clause-refines : goal.returns-clause-refines
returns-clause-refines c = refined meaning.OrderOverOrder shown.order_over_order c.args.p c.one_order-made.result c.one_order-made.ensures c.outcome.result c.outcome.ensures
