use Rattle.al_rules_prune.specs.Sound as sound
use Rattle.al_rules_prune.proofs.MatchLaws.{applied_all}
use Rattle.al_rules_prune.proofs.projects.ProjectAllRule.apply.Goals as goal

pub returns-clause-applied : goal.returns-clause-applied
returns-clause-applied c = applied_all c.args.p c.no_project.result c.no_project.ensures

pub returns-clause-refines : goal.returns-clause-refines
returns-clause-refines c m fit = sound.project_all c.args.p c.no_project.result fit (applied_all c.args.p c.no_project.result c.no_project.ensures m)
