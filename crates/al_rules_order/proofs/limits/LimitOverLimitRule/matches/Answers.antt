use Rattle.al_plan.specs.declared.plan.Plan.TheVariants as P
use Rattle.al_rules_order.specs.OrderRules as meaning
use Rattle.al_rules_order.proofs.Finding.{decided}
use Rattle.al_rules_order.proofs.limits.LimitOverLimitRule.matches.Goals as goal

pub returns : goal.returns
returns c = decided meaning.LimitOverLimit c.args.p.now c.limit_of_two.result _ (λ l h. (P.Limit l.n l.k l.input.now, h)) c.limit_of_two.ensures c.is_some.result c.is_some.ensures
