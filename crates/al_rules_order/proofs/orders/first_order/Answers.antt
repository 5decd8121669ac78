use Rattle.al_rules_order.proofs.Finding.{first_right, no_first}
use Rattle.al_rules_order.proofs.orders.first_order.Goals as goal

pub returns-in-Some-order_below : goal.returns-in-Some-order_below
returns-in-Some-order_below c = first_right c.args.p.now c.in-Some-order_below.input.now c.in-None.ensures c.in-Some-order_below.ensures

pub returns-in-None-order_below : goal.returns-in-None-order_below
returns-in-None-order_below c = no_first c.args.p.now c.in-None.ensures c.in-None-order_below.ensures
