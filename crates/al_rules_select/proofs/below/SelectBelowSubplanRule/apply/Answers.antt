use Rattle.al_rules_select.specs.Selects as meaning
use Rattle.al_rules_select.specs.Sound as sound
use Rattle.al_rules_select.proofs.SelectLaws.{applied_subplan, refines_by}
use Rattle.al_rules_select.proofs.below.SelectBelowSubplanRule.apply.Goals as goal

pub returns-clause-applied : goal.returns-clause-applied
returns-clause-applied c = applied_subplan c.args.p c.lower.result c.lower.ensures.lowered

pub returns-clause-refines : goal.returns-clause-refines
returns-clause-refines c = refines_by meaning.SelectBelowSubplan sound.below_subplan c.args.p c.lower.result (applied_subplan c.args.p c.lower.result c.lower.ensures.lowered)
