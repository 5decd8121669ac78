use Rattle.std.proofs.Common.{subst, Option}
use Rattle.al_plan.specs.declared.expr.Expr.{Expr}
use Rattle.al_rules_join.specs.JoinRules.{IsWithoutTrue}
use Rattle.al_rules_join.proofs.Matching.{other_drop_true_join, other_drop_true_left_join}
use Rattle.al_rules_join.proofs.drop_true.dropped.Goals as goal

pub returns-in_default-2 : goal.returns-in_default-2
returns-in_default-2 c =
    let join = c.in-Some.join in
    other_drop_true_join c.args.p.now join.cond.now join.left.now join.right.now c.in-Some.ensures (subst (λ (o : Option Expr). IsWithoutTrue join.cond.now o) c.in_default-2.is (c.in_ok-cond.ensures {u = tt}))

pub returns-in_default-3 : goal.returns-in_default-3
returns-in_default-3 c =
    let join = c.in-Some-left_join_sides.join in
    other_drop_true_left_join c.args.p.now join.cond.now join.left.now join.right.now c.in-Some-left_join_sides.ensures (subst (λ (o : Option Expr). IsWithoutTrue join.cond.now o) c.in_default-3.is (c.in_ok-cond-2.ensures {u = tt}))
