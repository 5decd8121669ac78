use Rattle.al_rules_group.specs.GroupRules as meaning
use Rattle.al_rules_group.proofs.Finding.{decided}
use Rattle.al_rules_group.proofs.distincts.DistinctOverGroupRule.matches.Goals as goal

pub returns : goal.returns
returns c = decided meaning.DistinctOverGroup c.args.p.now c.group_below.result _ (λ x h. (x.now, h)) c.group_below.ensures c.is_some.result c.is_some.ensures
