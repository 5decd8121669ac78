use Rattle.al_rules_group.specs.GroupRules as meaning
use Rattle.al_rules_group.specs.AggregateSound.{aggregate_over_project}
use Rattle.al_rules_group.proofs.Finding.{refined}
use Rattle.al_rules_group.proofs.projects.AggregateOverProjectRule.apply.Goals as goal

pub returns-clause-refines : goal.returns-clause-refines
returns-clause-refines c = refined meaning.AggregateOverProject aggregate_over_project c.args.p c.aggregate_alone-made.result c.aggregate_alone-made.ensures c.outcome.result c.outcome.ensures
