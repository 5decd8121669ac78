use Rattle.al_rules_prune.proofs.MatchLaws.{yes_project}
use Rattle.al_rules_prune.proofs.projects.ProjectOverProjectRule.matches.Goals as goal

pub returns-in-Some : goal.returns-in-Some
returns-in-Some c = let s = c.in-Some.field-0 in yes_project c.args.p.now s.vars.now s.inner.now s.input.now c.in-Some.ensures
