use Rattle.al_rules_select.proofs.SelectLaws.{other_order, yes_order}
use Rattle.al_rules_select.proofs.below.SelectBelowOrderRule.matches.Goals as goal

pub returns-in_default-over : goal.returns-in_default-over
returns-in_default-over c = other_order c.args.p.now _ c.in-Some.over.now c.in-Some.ensures (λ keys input h. c.in_default-over.not-Order keys input h)

pub returns-in-Order : goal.returns-in-Order
returns-in-Order c = yes_order c.args.p.now _ c.in-Some.over.now c.in-Order.keys c.in-Order.input c.in-Some.ensures c.in-Order.is
