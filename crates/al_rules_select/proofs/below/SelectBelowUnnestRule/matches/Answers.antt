use Rattle.al_rules_select.proofs.SelectLaws.{other_unnest}
use Rattle.al_rules_select.proofs.below.SelectBelowUnnestRule.matches.Goals as goal

pub returns-in_default-over : goal.returns-in_default-over
returns-in_default-over c = other_unnest c.args.p.now _ c.in-Some.over.now c.in-Some.ensures (λ var items input h. c.in_default-over.not-Unnest var items input h)
