use Rattle.al_rules_prune.proofs.MatchLaws.{yes_result}
use Rattle.al_rules_prune.proofs.cuts.ResultProjectRule.matches.Goals as goal

pub returns-in-Some : goal.returns-in-Some
returns-in-Some c = let s = c.in-Some.field-0 in yes_result c.args.p.now s.0.now s.1.now c.in-Some.ensures.0 c.in-Some.ensures.1
