use Rattle.al_rules_prune.specs.Sound as sound
use Rattle.al_rules_prune.proofs.MatchLaws.{applied_project}
use Rattle.al_rules_prune.proofs.projects.ProjectOverProjectRule.apply.Goals as goal

pub returns-clause-applied : goal.returns-clause-applied
returns-clause-applied c = applied_project c.args.p c.one_project.result c.one_project.ensures

pub returns-clause-refines : goal.returns-clause-refines
returns-clause-refines c m fit = sound.project_over_project c.args.p c.one_project.result fit (applied_project c.args.p c.one_project.result c.one_project.ensures m)
