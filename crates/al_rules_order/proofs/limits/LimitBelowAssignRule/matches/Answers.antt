use Rattle.al_rules_order.specs.OrderRules as meaning
use Rattle.al_rules_order.proofs.Finding.{decided, assign_matches}
use Rattle.al_rules_order.proofs.limits.LimitBelowAssignRule.matches.Goals as goal

pub returns : goal.returns
returns c = decided meaning.LimitBelowAssign c.args.p.now c.limit_over_assign.result _ (λ o h. assign_matches c.args.p.now o.limit.input.now o.below.now o.limit.n o.limit.k h.0 h.1) c.limit_over_assign.ensures c.is_some.result c.is_some.ensures
