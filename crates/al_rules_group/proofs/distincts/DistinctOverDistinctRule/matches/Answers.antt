use Rattle.al_rules_group.specs.GroupRules as meaning
use Rattle.al_rules_group.proofs.Finding.{decided}
use Rattle.al_rules_group.proofs.distincts.DistinctOverDistinctRule.matches.Goals as goal

pub returns : goal.returns
returns c = decided meaning.DistinctOverDistinct c.args.p.now c.distinct_below.result _ (λ x h. (x.now, h)) c.distinct_below.ensures c.is_some.result c.is_some.ensures
