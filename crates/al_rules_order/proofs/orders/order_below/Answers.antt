use Rattle.al_rules_order.proofs.Finding.{told, no_order_there, order_there}
use Rattle.al_rules_order.proofs.orders.order_below.Goals as goal

pub returns-in-Some : goal.returns-in-Some
returns-in-Some c =
    let y = c.in-Some.part.now in
    told c.ordered_input.result _ _ _ _ (λ none. no_order_there c.args.p.now y c.args.i c.in-Some.ensures none) (λ x h. order_there c.args.p.now y x.now c.args.i c.in-Some.ensures h) c.ordered_input.ensures
