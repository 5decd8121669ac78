use Rattle.al_rules_select.proofs.WholeLaws.{yes_split}
use Rattle.al_rules_select.proofs.whole.SplitAndRule.matches.Goals as goal

pub returns-in-Some-sides : goal.returns-in-Some-sides
returns-in-Some-sides c = yes_split c.args.p.now c.in-Some.e.now _ _ _ c.in-Some.ensures c.in-Some-sides.ensures
