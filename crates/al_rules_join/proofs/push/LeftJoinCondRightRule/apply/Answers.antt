use Rattle.std.proofs.Common.{sym, subst, IfOk, Result}
use Rattle.al_plan.specs.declared.plan.Plan.{Plan}
use Rattle.al_plan.specs.Refines.{Replaces}
use Rattle.al_rule.specs.declared.rule.ApplyFault.{ApplyFault}
use Rattle.al_rules_join.specs.JoinRules.{left_join_cond_right}
use Rattle.al_rules_join.specs.Sound.{left_join_cond_right_sound}
use Rattle.al_rules_join.proofs.Matching.{applies, refines}
use Rattle.al_rules_join.proofs.push.LeftJoinCondRightRule.apply.Goals as goal

pub returns-clause-applied : goal.returns-clause-applied
returns-clause-applied c = λ m. subst (λ (x : Result Plan ApplyFault). IfOk x (λ q. left_join_cond_right c.args.p q)) (sym c.outcome.ensures) (applies left_join_cond_right c.args.p c.pushed_below_left_join-made.result c.pushed_below_left_join-made.ensures m)

pub returns-clause-refines : goal.returns-clause-refines
returns-clause-refines c = λ m fit. subst (λ (x : Result Plan ApplyFault). IfOk x (λ q. Replaces q c.args.p)) (sym c.outcome.ensures) (refines left_join_cond_right left_join_cond_right_sound c.args.p c.pushed_below_left_join-made.result c.pushed_below_left_join-made.ensures m fit)
