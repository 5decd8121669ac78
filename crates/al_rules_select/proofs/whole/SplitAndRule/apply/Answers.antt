use Rattle.al_rules_select.specs.Selects as meaning
use Rattle.al_rules_select.specs.Sound as sound
use Rattle.al_rules_select.proofs.SelectLaws.{refines_by}
use Rattle.al_rules_select.proofs.WholeLaws.{applied_split}
use Rattle.al_rules_select.proofs.whole.SplitAndRule.apply.Goals as goal

pub returns-clause-applied : goal.returns-clause-applied
returns-clause-applied c = applied_split c.args.p c.split.result c.split.ensures.splits

pub returns-clause-refines : goal.returns-clause-refines
returns-clause-refines c = refines_by meaning.SplitAnd sound.split_and c.args.p c.split.result (applied_split c.args.p c.split.result c.split.ensures.splits)
