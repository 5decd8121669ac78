use Rattle.al_rules_prune.proofs.MatchLaws.{yes_group}
use Rattle.al_rules_prune.proofs.group.GroupProjectInputRule.matches.Goals as goal

pub returns-in-Some : goal.returns-in-Some
returns-in-Some c = let s = c.in-Some.field-0 in yes_group c.args.p.now s.keys.now s.nested.now s.input.now c.in-Some.ensures.0 c.in-Some.ensures.1 c.in-Some.ensures.2
