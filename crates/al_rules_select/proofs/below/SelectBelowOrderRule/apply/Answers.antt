use Rattle.al_rules_select.specs.Selects as meaning
use Rattle.al_rules_select.specs.Sound as sound
use Rattle.al_rules_select.proofs.SelectLaws.{applied_order, refines_by}
use Rattle.al_rules_select.proofs.below.SelectBelowOrderRule.apply.Goals as goal

pub returns-clause-applied : goal.returns-clause-applied
returns-clause-applied c = applied_order c.args.p c.lower.result c.lower.ensures.lowered

pub returns-clause-refines : goal.returns-clause-refines
returns-clause-refines c = refines_by meaning.SelectBelowOrder sound.below_order c.args.p c.lower.result (applied_order c.args.p c.lower.result c.lower.ensures.lowered)
