use Rattle.std.proofs.Common.{sym, subst, IfOk, Result}
use Rattle.al_plan.specs.declared.plan.Plan.{Plan}
use Rattle.al_plan.specs.Refines.{Replaces}
use Rattle.al_rule.specs.declared.rule.ApplyFault.{ApplyFault}
use Rattle.al_rules_join.specs.JoinRules.{left_join_to_join}
use Rattle.al_rules_join.specs.Sound.{left_join_to_join_sound}
use Rattle.al_rules_join.proofs.Matching.{applies, refines}
use Rattle.al_rules_join.proofs.left_join.LeftJoinToJoinRule.apply.Goals as goal

pub returns-clause-applied : goal.returns-clause-applied
returns-clause-applied c = λ m. subst (λ (x : Result Plan ApplyFault). IfOk x (λ q. left_join_to_join c.args.p q)) (sym c.outcome.ensures) (applies left_join_to_join c.args.p c.inner_join-made.result c.inner_join-made.ensures m)

pub returns-clause-refines : goal.returns-clause-refines
returns-clause-refines c = λ m fit. subst (λ (x : Result Plan ApplyFault). IfOk x (λ q. Replaces q c.args.p)) (sym c.outcome.ensures) (refines left_join_to_join left_join_to_join_sound c.args.p c.inner_join-made.result c.inner_join-made.ensures m fit)
