use Rattle.al_rules_group.specs.GroupRules as meaning
use Rattle.al_rules_group.specs.GroupSound.{group_over_project}
use Rattle.al_rules_group.proofs.Finding.{refined}
use Rattle.al_rules_group.proofs.projects.GroupOverProjectRule.apply.Goals as goal

pub returns-clause-refines : goal.returns-clause-refines
returns-clause-refines c = refined meaning.GroupOverProject group_over_project c.args.p c.group_alone-made.result c.group_alone-made.ensures c.outcome.result c.outcome.ensures
