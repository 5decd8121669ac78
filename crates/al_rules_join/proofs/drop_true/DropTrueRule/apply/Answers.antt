use Rattle.std.proofs.Common.{sym, subst, IfOk, Result}
use Rattle.al_plan.specs.declared.plan.Plan.{Plan}
use Rattle.al_plan.specs.Refines.{Replaces}
use Rattle.al_rule.specs.declared.rule.ApplyFault.{ApplyFault}
use Rattle.al_rules_join.specs.JoinRules.{drop_true}
use Rattle.al_rules_join.specs.Sound.{drop_true_sound}
use Rattle.al_rules_join.proofs.Matching.{applies, refines}
use Rattle.al_rules_join.proofs.drop_true.DropTrueRule.apply.Goals as goal

pub returns-clause-applied : goal.returns-clause-applied
returns-clause-applied c = λ m. subst (λ (x : Result Plan ApplyFault). IfOk x (λ q. drop_true c.args.p q)) (sym c.outcome.ensures) (applies drop_true c.args.p c.dropped-made.result c.dropped-made.ensures m)

pub returns-clause-refines : goal.returns-clause-refines
returns-clause-refines c = λ m fit. subst (λ (x : Result Plan ApplyFault). IfOk x (λ q. Replaces q c.args.p)) (sym c.outcome.ensures) (refines drop_true drop_true_sound c.args.p c.dropped-made.result c.dropped-made.ensures m fit)
