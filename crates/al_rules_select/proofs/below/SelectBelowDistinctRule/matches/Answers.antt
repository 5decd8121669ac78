use Rattle.al_rules_select.proofs.SelectLaws.{other_distinct, yes_distinct}
use Rattle.al_rules_select.proofs.below.SelectBelowDistinctRule.matches.Goals as goal

pub returns-in_default-over : goal.returns-in_default-over
returns-in_default-over c = other_distinct c.args.p.now _ c.in-Some.over.now c.in-Some.ensures (λ input h. c.in_default-over.not-Distinct input h)

pub returns-in-Distinct : goal.returns-in-Distinct
returns-in-Distinct c = yes_distinct c.args.p.now _ c.in-Some.over.now c.in-Distinct.input c.in-Some.ensures c.in-Distinct.is
