use Rattle.al_rules_select.proofs.WholeLaws.{joins_none, joins_with}
use Rattle.al_rules_select.proofs.whole.joined.Goals as goal

pub returns-in-Ok-Some-clause-joins : goal.returns-in-Ok-Some-clause-joins
returns-in-Ok-Some-clause-joins c = joins_with c.args.p c.with_condition.result c.in-Ok-Some.cond (rw c.in-Ok-Some.field-0-is at c.in-Ok-Some.ensures) c.with_condition.ensures

pub returns-in-Ok-None-clause-joins : goal.returns-in-Ok-None-clause-joins
returns-in-Ok-None-clause-joins c = joins_none c.args.p (rw c.in-Ok-None.field-0-is at c.in-Ok-None.ensures)
