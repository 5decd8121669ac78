use Rattle.al_rules_select.proofs.WholeLaws.{uncovers}
use Rattle.al_rules_select.proofs.whole.uncovered.Goals as goal

pub returns-in-Select : goal.returns-in-Select
returns-in-Select c = uncovers c.args.p c.in-Select.cond c.in-Select.input c.into_inner.result c.in-Select.is c.into_inner.ensures

pub returns-in_default : goal.returns-in_default
returns-in_default c = λ e x is. absurd (c.in_default.not-Select e x is)
