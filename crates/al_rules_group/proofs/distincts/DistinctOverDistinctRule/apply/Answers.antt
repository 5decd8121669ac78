use Rattle.al_rules_group.specs.GroupRules as meaning
use Rattle.al_rules_group.specs.DistinctSound as sound
use Rattle.al_rules_group.proofs.Finding.{refined}
use Rattle.al_rules_group.proofs.distincts.DistinctOverDistinctRule.apply.Goals as goal

pub returns-clause-refines : goal.returns-clause-refines
returns-clause-refines c = refined meaning.DistinctOverDistinct sound.distinct_over_distinct c.args.p c.distinct_alone-made.result c.distinct_alone-made.ensures c.outcome.result c.outcome.ensures
