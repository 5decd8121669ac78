use Rattle.al_rules_group.specs.GroupRules as meaning
use Rattle.al_rules_group.proofs.Finding.{decided, aggregate_matches}
use Rattle.al_rules_group.proofs.projects.AggregateOverProjectRule.matches.Goals as goal

pub returns : goal.returns
returns c = decided meaning.AggregateOverProject c.args.p.now c.aggregated.result _ (λ x h. aggregate_matches c.args.p.now h.0 x.now h.1 h.2) c.aggregated.ensures c.is_some.result c.is_some.ensures
