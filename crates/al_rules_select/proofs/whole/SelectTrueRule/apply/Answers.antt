use Rattle.al_rules_select.specs.Sound as sound
use Rattle.al_rules_select.proofs.WholeLaws.{applied_true}
use Rattle.al_rules_select.proofs.whole.SelectTrueRule.apply.Goals as goal

pub returns-clause-applied : goal.returns-clause-applied
returns-clause-applied c = applied_true c.args.p c.uncovered.result c.uncovered.ensures

pub returns-clause-refines : goal.returns-clause-refines
returns-clause-refines c m fit = sound.select_true c.args.p c.uncovered.result fit (applied_true c.args.p c.uncovered.result c.uncovered.ensures m)
