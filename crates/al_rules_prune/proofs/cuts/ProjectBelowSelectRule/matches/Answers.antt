use Rattle.al_rules_prune.proofs.MatchLaws.{yes_select}
use Rattle.al_rules_prune.proofs.cuts.ProjectBelowSelectRule.matches.Goals as goal

pub returns-in-Some : goal.returns-in-Some
returns-in-Some c = let s = c.in-Some.field-0 in yes_select c.args.p.now s.vars.now s.cond.now s.input.now c.in-Some.ensures.0 c.in-Some.ensures.1
