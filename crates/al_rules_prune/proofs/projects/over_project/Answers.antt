use Rattle.std.proofs.Common.{rules}
use Rattle.al_rules_prune.proofs.MatchLaws.{none_project, other_project}
use Rattle.al_rules_prune.proofs.projects.over_project.Goals as goal

pub returns-in_default : goal.returns-in_default
returns-in_default c = none_project c.args.p.now (search rules)

pub returns-in_default-project_parts : goal.returns-in_default-project_parts
returns-in_default-project_parts c = other_project c.args.p.now c.in-Some.vars.now c.in-Some.over.now (search rules) (search rules)
