use Rattle.al_rules_order.specs.OrderRules as meaning
use Rattle.al_rules_order.proofs.Finding.{decided, drop_matches}
use Rattle.al_rules_order.proofs.orders.DropOrderRule.matches.Goals as goal

pub returns : goal.returns
returns c = decided meaning.DropOrder c.args.p.now c.order_to_drop.result _ (λ o h. drop_matches c.args.p.now o.input.now o.child h.0 h.1) c.order_to_drop.ensures c.is_some.result c.is_some.ensures
