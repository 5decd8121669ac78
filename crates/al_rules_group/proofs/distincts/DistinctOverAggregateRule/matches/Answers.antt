use Rattle.al_rules_group.specs.GroupRules as meaning
use Rattle.al_rules_group.proofs.Finding.{decided}
use Rattle.al_rules_group.proofs.distincts.DistinctOverAggregateRule.matches.Goals as goal

pub returns : goal.returns
returns c = decided meaning.DistinctOverAggregate c.args.p.now c.aggregate_below.result _ (λ x h. (x.now, h)) c.aggregate_below.ensures c.is_some.result c.is_some.ensures
