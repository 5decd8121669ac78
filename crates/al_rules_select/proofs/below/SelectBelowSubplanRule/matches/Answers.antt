use Rattle.al_rules_select.proofs.SelectLaws.{other_subplan}
use Rattle.al_rules_select.proofs.below.SelectBelowSubplanRule.matches.Goals as goal

pub returns-in_default-over : goal.returns-in_default-over
returns-in_default-over c = other_subplan c.args.p.now _ c.in-Some.over.now c.in-Some.ensures (λ nested input h. c.in_default-over.not-Subplan nested input h)
