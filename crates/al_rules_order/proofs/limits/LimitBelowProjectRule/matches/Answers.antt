use Rattle.al_rules_order.specs.OrderRules as meaning
use Rattle.al_rules_order.proofs.Finding.{decided, project_matches}
use Rattle.al_rules_order.proofs.limits.LimitBelowProjectRule.matches.Goals as goal

pub returns : goal.returns
returns c = decided meaning.LimitBelowProject c.args.p.now c.limit_over_project.result _ (λ o h. project_matches c.args.p.now o.limit.input.now o.below.now o.limit.n o.limit.k h.0 h.1) c.limit_over_project.ensures c.is_some.result c.is_some.ensures
