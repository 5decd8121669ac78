use Rattle.al_rules_prune.proofs.MatchLaws.{yes_assign}
use Rattle.al_rules_prune.proofs.projects.AssignUnderProjectRule.matches.Goals as goal

pub returns-in-Some : goal.returns-in-Some
returns-in-Some c = let s = c.in-Some.field-0 in yes_assign c.args.p.now s.vars.now s.made.now s.input.now c.in-Some.ensures.0 c.in-Some.ensures.1
