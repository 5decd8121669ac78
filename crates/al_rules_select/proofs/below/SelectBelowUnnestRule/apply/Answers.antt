use Rattle.al_rules_select.specs.Selects as meaning
use Rattle.al_rules_select.specs.Sound as sound
use Rattle.al_rules_select.proofs.SelectLaws.{applied_unnest, refines_by}
use Rattle.al_rules_select.proofs.below.SelectBelowUnnestRule.apply.Goals as goal

pub returns-clause-applied : goal.returns-clause-applied
returns-clause-applied c = applied_unnest c.args.p c.lower.result c.lower.ensures.lowered

pub returns-clause-refines : goal.returns-clause-refines
returns-clause-refines c = refines_by meaning.SelectBelowUnnest sound.below_unnest c.args.p c.lower.result (applied_unnest c.args.p c.lower.result c.lower.ensures.lowered)
