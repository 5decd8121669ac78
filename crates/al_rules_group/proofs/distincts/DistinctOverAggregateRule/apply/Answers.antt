use Rattle.al_rules_group.specs.GroupRules as meaning
use Rattle.al_rules_group.specs.DistinctSound as sound
use Rattle.al_rules_group.proofs.Finding.{refined}
use Rattle.al_rules_group.proofs.distincts.DistinctOverAggregateRule.apply.Goals as goal

pub returns-clause-refines : goal.returns-clause-refines
returns-clause-refines c = refined meaning.DistinctOverAggregate sound.distinct_over_aggregate c.args.p c.aggregate_alone-made.result c.aggregate_alone-made.ensures c.outcome.result c.outcome.ensures
