use Rattle.al_rules_group.specs.GroupRules as meaning
use Rattle.al_rules_group.specs.DistinctSound as sound
use Rattle.al_rules_group.proofs.Finding.{refined}
use Rattle.al_rules_group.proofs.distincts.DistinctOverGroupRule.apply.Goals as goal

pub returns-clause-refines : goal.returns-clause-refines
returns-clause-refines c = refined meaning.DistinctOverGroup sound.distinct_over_group c.args.p c.group_alone-made.result c.group_alone-made.ensures c.outcome.result c.outcome.ensures
