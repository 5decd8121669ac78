use Rattle.al_rules_select.proofs.SelectLaws.{lowers_none, lowers_select}
use Rattle.al_rules_select.proofs.lower.lowered.Goals as goal

pub returns-in-Select : goal.returns-in-Select
returns-in-Select c = lowers_select c.args.i c.args.p c.in-Select.input c.select_below.result c.in-Select.cond c.in-Select.is c.select_below.ensures

pub returns-in_default : goal.returns-in_default
returns-in_default c = lowers_none c.args.i c.args.p c.args.p (λ e x is. c.in_default.not-Select e x is)
