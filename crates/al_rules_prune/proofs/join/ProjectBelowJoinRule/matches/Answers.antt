use Rattle.al_rules_prune.proofs.MatchLaws.{yes_join}
use Rattle.al_rules_prune.proofs.join.ProjectBelowJoinRule.matches.Goals as goal

pub returns-in-Some : goal.returns-in-Some
returns-in-Some c = let s = c.in-Some.field-0 in yes_join c.args.p.now s.vars.now s.join.outer s.join.cond.now s.join.left.now s.join.right.now s.on_left c.in-Some.ensures.0 c.in-Some.ensures.1
