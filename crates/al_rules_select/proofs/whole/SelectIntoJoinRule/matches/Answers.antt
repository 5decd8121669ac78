use Rattle.al_rules_select.proofs.WholeLaws.{other_into, yes_into}
use Rattle.al_rules_select.proofs.whole.SelectIntoJoinRule.matches.Goals as goal

pub returns-in-Join : goal.returns-in-Join
returns-in-Join c = yes_into c.args.p.now _ c.in-Some.over.now c.in-Join.cond c.in-Join.left c.in-Join.right c.in-Some.ensures c.in-Join.is

pub returns-in_default-over : goal.returns-in_default-over
returns-in_default-over c = other_into c.args.p.now _ c.in-Some.over.now c.in-Some.ensures (λ cond l r h. c.in_default-over.not-Join cond l r h)
