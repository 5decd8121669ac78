use Rattle.al_rules_select.proofs.WholeLaws.{condition_of, no_join_other}
use Rattle.al_rules_select.proofs.whole.joined_condition.Goals as goal

pub returns-in_ok-conjoined-in-Join : goal.returns-in_ok-conjoined-in-Join
returns-in_ok-conjoined-in-Join c = condition_of c.args.p.now c.in-Some.e.now c.in-Some.over.now c.in-Join.cond c.in-Join.left c.in-Join.right c.in_ok-conjoined-in-Join.field-0 c.in-Some.ensures c.in-Join.is c.in_ok-conjoined-in-Join.ensures

pub returns-in_default-over : goal.returns-in_default-over
returns-in_default-over c = no_join_other c.args.p.now c.in-Some.e.now c.in-Some.over.now c.in-Some.ensures (λ cond l r h. c.in_default-over.not-Join cond l r h)
