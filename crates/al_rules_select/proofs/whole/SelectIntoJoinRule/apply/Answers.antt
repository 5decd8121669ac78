use Rattle.al_rules_select.specs.Selects as meaning
use Rattle.al_rules_select.specs.Sound as sound
use Rattle.al_rules_select.proofs.SelectLaws.{refines_by}
use Rattle.al_rules_select.proofs.WholeLaws.{applied_into}
use Rattle.al_rules_select.proofs.whole.SelectIntoJoinRule.apply.Goals as goal

pub returns-clause-applied : goal.returns-clause-applied
returns-clause-applied c = applied_into c.args.p c.joined.result c.joined.ensures.joins

pub returns-clause-refines : goal.returns-clause-refines
returns-clause-refines c = refines_by meaning.SelectIntoJoin sound.into_join c.args.p c.joined.result (applied_into c.args.p c.joined.result c.joined.ensures.joins)
