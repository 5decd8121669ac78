use Rattle.al_rules_order.proofs.Finding.{told, no_inner_order, two_orders}
use Rattle.al_rules_order.proofs.orders.under_two_orders.Goals as goal

pub returns-in-Some : goal.returns-in-Some
returns-in-Some c =
    let y = c.in-Some.below.now in
    told c.ordered_input-in-Some.result _ _ _ _ (λ none. no_inner_order c.args.p.now y c.in-Some.ensures none) (λ x h. two_orders c.args.p.now y x.now c.in-Some.ensures h) c.ordered_input-in-Some.ensures
