-- The rules of selects are sound: their right sides may stand in the place of their left sides.
use Rattle.std.specs.Prelude.{◌≡◌, List, true}
use Rattle.std.proofs.Common.{subst, sym, ap, [], ◌++◌}
use Rattle.al_plan.specs.declared.plan.Plan.{Plan}
use Rattle.al_plan.specs.declared.plan.Plan.TheVariants as P
use Rattle.al_plan.specs.declared.expr.Var.{Var}
use Rattle.al_plan.specs.Allows.{live}
use Rattle.al_plan.specs.Refines.{Fit, IsOver, Replaces}
use Rattle.al_plan.proofs.PlanLaws.{live-Join}
use Rattle.al_rule.specs.Places.{Rewriting}
use Rattle.al_rule.proofs.SelectRules as laws
use Rattle.al_rule.proofs.SubplanRules as subplans
use Rattle.al_conj.specs.Conj.{both}
use Rattle.al_value.specs.declared.value.Value.TheVariants as V
use Rattle.al_plan.specs.declared.expr.Expr.TheVariants as E
use Rattle.al_func.specs.Func.{is_true}
use Rattle.al_plan.proofs.EvalLaws.{eval-Lit}
use Rattle.al_conj.proofs.ConjLaws.{holds-both, names-both, arities-both, over_both}
use Rattle.al_rule.proofs.FitLaws.{out_Select, out_Join}
use Rattle.al_rules_select.specs.Selects as rule

-- what stands for the sides of a rewriting stands for the plans that are these sides
in_place : (p q x y : Plan) → p ≡ x → q ≡ y → Fit p → (Fit x → Replaces y x) → Replaces q p
in_place p q x y e f fit h = subst (λ (z : Plan). Replaces z p) (sym f) (subst (λ (z : Plan). Replaces y z) (sym e) (h (subst Fit e fit)))

abbrev pub IsSound : Rewriting → Type 0
IsSound R = (p q : Plan) → Fit p → R p q → Replaces q p

pub below_assign : IsSound rule.SelectBelowAssign
below_assign p q fit (e, made, y, at, k, to) = in_place p q (P.Select e (P.Assign made y)) (P.Assign made (P.Select e y)) at to fit (laws.below_assign e made y k)

pub below_project : IsSound rule.SelectBelowProject
below_project p q fit (e, vars, y, at, to) = in_place p q (P.Select e (P.Project vars y)) (P.Project vars (P.Select e y)) at to fit (laws.below_project e vars y)

pub below_unnest : IsSound rule.SelectBelowUnnest
below_unnest p q fit (e, v, g, y, at, k, to) = in_place p q (P.Select e (P.Unnest v g y)) (P.Unnest v g (P.Select e y)) at to fit (laws.below_unnest e v g y k)

pub below_subplan : IsSound rule.SelectBelowSubplan
below_subplan p q fit (e, n, y, at, k, to) = in_place p q (P.Select e (P.Subplan n y)) (P.Subplan n (P.Select e y)) at to fit (subplans.below_subplan e n y k)

pub below_order : IsSound rule.SelectBelowOrder
below_order p q fit (e, keys, y, at, to) = in_place p q (P.Select e (P.Order keys y)) (P.Order keys (P.Select e y)) at to fit (laws.below_order e keys y)

pub below_distinct : IsSound rule.SelectBelowDistinct
below_distinct p q fit (e, y, at, to) = in_place p q (P.Select e (P.Distinct y)) (P.Distinct (P.Select e y)) at to fit (laws.below_distinct e y)

pub below_join_left : IsSound rule.SelectBelowJoinLeft
below_join_left p q fit (e, c, y, r, at, k, to) = in_place p q (P.Select e (P.Join c y r)) (P.Join c (P.Select e y) r) at to fit (laws.below_join_left (both c e) e c y r (holds-both c e) k)

pub below_join_right : IsSound rule.SelectBelowJoinRight
below_join_right p q fit (e, c, l, y, at, k, to) = in_place p q (P.Select e (P.Join c l y)) (P.Join c l (P.Select e y)) at to fit (laws.below_join_right (both c e) e c l y (holds-both c e) k)

pub below_left_join : IsSound rule.SelectBelowLeftJoin
below_left_join p q fit (e, c, y, r, at, k, to) = in_place p q (P.Select e (P.LeftJoin c y r)) (P.LeftJoin c (P.Select e y) r) at to fit (laws.below_left_join e c y r k)

pub select_true : IsSound rule.SelectTrue
select_true p q fit (x, at, to) = in_place p q (P.Select (E.Lit (V.Bool true)) x) x at to fit (laws.select_true (E.Lit (V.Bool true)) x (λ r. ap is_true (eval-Lit (V.Bool true) r)))

pub split_and : IsSound rule.SplitAnd
split_and p q fit (a, b, x, at, to) = in_place p q (P.Select (both a b) x) (P.Select a (P.Select b x)) at to fit (λ f.
    let over = laws.both_over (both a b) (live x []) a b (names-both a b) (arities-both a b) (out_Select (both a b) x f).over in
    laws.split_and (both a b) a b x (holds-both a b) over.0 over.1 f)

pub into_join : IsSound rule.SelectIntoJoin
into_join p q fit (e, c, l, r, at, to) = in_place p q (P.Select e (P.Join c l r)) (P.Join (both c e) l r) at to fit (λ f.
    let top = out_Select e (P.Join c l r) f in
    let over = subst (λ (vs : List Var). IsOver vs e) (live-Join c l r []) top.over in
    laws.into_join (both c e) e c l r (holds-both c e) (over_both (live l [] ++ live r []) c e (out_Join c l r top.input).over over) f)
