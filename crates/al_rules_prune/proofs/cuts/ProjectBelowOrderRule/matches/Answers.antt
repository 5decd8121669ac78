use Rattle.al_rules_prune.proofs.MatchLaws.{yes_order}
use Rattle.al_rules_prune.proofs.cuts.ProjectBelowOrderRule.matches.Goals as goal

pub returns-in-Some : goal.returns-in-Some
returns-in-Some c = let s = c.in-Some.field-0 in yes_order c.args.p.now s.vars.now s.keys.now s.input.now c.in-Some.ensures.0 c.in-Some.ensures.1
