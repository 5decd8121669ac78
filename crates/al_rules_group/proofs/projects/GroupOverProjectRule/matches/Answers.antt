use Rattle.al_rules_group.specs.GroupRules as meaning
use Rattle.al_rules_group.proofs.Finding.{decided, group_matches}
use Rattle.al_rules_group.proofs.projects.GroupOverProjectRule.matches.Goals as goal

pub returns : goal.returns
returns c = decided meaning.GroupOverProject c.args.p.now c.grouped.result _ (λ x h. group_matches c.args.p.now h.0 h.1 x.now h.2 h.3 h.4) c.grouped.ensures c.is_some.result c.is_some.ensures
