use Rattle.al_rules_order.specs.OrderRules as meaning
use Rattle.al_rules_order.proofs.Finding.{decided, orders_match}
use Rattle.al_rules_order.proofs.orders.OrderOverOrderRule.matches.Goals as goal

pub returns : goal.returns
returns c = decided meaning.OrderOverOrder c.args.p.now c.under_two_orders.result _ (λ x h. orders_match c.args.p.now x.now h) c.under_two_orders.ensures c.is_some.result c.is_some.ensures
