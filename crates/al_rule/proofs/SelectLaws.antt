-- The laws of selects over orders and distincts, both ways.
use Rattle.std.proofs.Common.{◌≡◌, ◌≢◌, Bool, true, false, cond, List, [], ◌∷◌, filter, refl, sym, subst}
use Rattle.std.specs.List.{All, AllByRecursion, Contains}
use Rattle.std.proofs.lemmas.List.Elements.{All-from_recursion, recursion_from_All, All-weaker, All-contains, All-filter, filter_passes}
use Rattle.al_plan.specs.declared.expr.Var.{Var}
use Rattle.al_plan.specs.declared.expr.Expr.{Expr}
use Rattle.al_plan.specs.declared.plan.Plan.{Plan}
use Rattle.al_plan.specs.declared.plan.Plan.TheVariants as P
use Rattle.al_plan.specs.Eval.{Env, holds}
use Rattle.al_plan.specs.Allows.{Sets, Allows, live, IsDistinctOf}
use Rattle.al_plan.specs.Refines.{IsOver}
use Rattle.al_rule.specs.Laws.{SelectPasses, SelectPassesOrder, SelectPassesDistinct}
use Rattle.al_plan.proofs.PlanLaws.{allows_Select, allows_Distinct, from_Select, from_Distinct, live-Order, live-Distinct}
use Rattle.al_plan.proofs.Moves.{Apart, apart_from_pairs, pairs_from_apart}
use Rattle.al_rule.proofs.SelectOrder.{select_order_in, select_order_out}
use Rattle.al_rule.proofs.SelectDistinct.{kept_by, select_distinct_out}
use Rattle.al_rule.proofs.FitLaws.{out_Select}
use Rattle.al_rule.proofs.Passing.{Operator, AllowsMore, operator_Order, operator_Distinct, select_goes_below, select_comes_up}

both_give : (A C : Env → Type 0) (xs : List Env) → AllByRecursion (λ x. A x → C x) xs → AllByRecursion A xs → AllByRecursion C xs
both_give A C [] h g = tt
both_give A C (x ∷ xs) h g = (h.0 g.0, both_give A C xs h.1 g.1)

-- what a filter keeps of rows that are all in a list is in what it keeps of the list
kept_within : (p : Env → Bool) (xs ys : List Env) → All (Contains ys) xs → All (Contains (filter p ys)) (filter p xs)
kept_within p xs ys h =
    let by_p = All-from_recursion (λ x. p x ≡ true → Contains (filter p ys) x) ys (kept_by p ys) in
    let each = All-weaker (Contains ys) (λ x. p x ≡ true → Contains (filter p ys) x) (λ x k. All-contains (λ x. p x ≡ true → Contains (filter p ys) x) ys x by_p k) (filter p xs) (All-filter p (Contains ys) xs h) in
    All-from_recursion (Contains (filter p ys)) (filter p xs) (both_give (λ x. p x ≡ true) (Contains (filter p ys)) (filter p xs) (recursion_from_All (λ x. p x ≡ true → Contains (filter p ys) x) (filter p xs) each) (recursion_from_All (λ x. p x ≡ true) (filter p xs) (filter_passes p xs)))

all_kept : (R : Env → Type 0) (p : Env → Bool) (xs : List Env) → AllByRecursion R xs → AllByRecursion R (filter p xs)
all_kept R p [] h = tt
all_kept R p (x ∷ xs) h = elim (p x) as (λ b. AllByRecursion R (cond b (x ∷ filter p xs) (filter p xs))) [ true ↦ (h.0, all_kept R p xs h.1) | false ↦ all_kept R p xs h.1 ]

apart_kept : (p : Env → Bool) (xs : List Env) → Apart ◌≢◌ xs → Apart ◌≢◌ (filter p xs)
apart_kept p [] h = h
apart_kept p (x ∷ xs) h = elim (p x) as (λ b. Apart ◌≢◌ (cond b (x ∷ filter p xs) (filter p xs))) [ true ↦ (all_kept (λ y. x ≢ y) p xs h.0, apart_kept p xs h.1) | false ↦ apart_kept p xs h.1 ]

distinct_kept : (p : Env → Bool) (input whole : List Env) → IsDistinctOf input whole → IsDistinctOf (filter p input) (filter p whole)
distinct_kept p input whole d = record {
  within = kept_within p whole input d.within;
  all = kept_within p input whole d.all;
  once = pairs_from_apart ◌≢◌ (filter p whole) (apart_kept p whole (apart_from_pairs ◌≢◌ whole d.once));
}

-- a distinct over a select has what the select over the distinct has
pub select_distinct_in : (c : Expr) (p : Plan) (b : Bool) (sets : Sets) (rows : List Env) → Allows (P.Select c (P.Distinct p)) b sets [] [] rows → Allows (P.Distinct (P.Select c p)) b sets [] [] rows
select_distinct_in c p b sets rows h =
    let one = from_Select c (P.Distinct p) b sets [] [] rows h in
    let two = from_Distinct p b sets [] [] one.0 one.1 in
    allows_Distinct (P.Select c p) b sets [] [] rows (
      filter (holds c) two.0,
      allows_Select c p b sets [] [] _ (two.0, two.1, refl),
      subst (λ (zs : List Env). IsDistinctOf (filter (holds c) two.0) zs) (sym one.2) (distinct_kept (holds c) two.0 one.0 two.2),
    )

-- a select passes an operator that has the live variables of its input, where the lists are the same both ways
passes : (over : Plan → Plan) → Operator over → ((p : Plan) → live (over p) [] ≡ live p []) → ((c : Expr) (p : Plan) → AllowsMore (over (P.Select c p)) (P.Select c (over p)))
    → ((c : Expr) (p : Plan) → AllowsMore (P.Select c (over p)) (over (P.Select c p))) → SelectPasses over
passes over o same down up = record {
  below = λ c p f. (select_goes_below over o c p f (subst (λ (vs : List Var). IsOver vs c) (same p) (out_Select c (over p) f).over) (down c p)).refines;
  above = λ c p f. (select_comes_up over o c p f (subst (λ (vs : List Var). IsOver vs c) (sym (same p)) (out_Select c p (o.input (P.Select c p) f)).over) (up c p)).refines;
}

pub select_passes_order : SelectPassesOrder
select_passes_order keys = passes (P.Order keys) (operator_Order keys) (λ p. live-Order keys p []) (λ c p b sets rows h. select_order_out c keys p b sets [] [] rows h) (λ c p b sets rows h. select_order_in c keys p b sets [] [] rows h)

pub select_passes_distinct : SelectPassesDistinct
select_passes_distinct = passes P.Distinct operator_Distinct (λ p. live-Distinct p []) select_distinct_out select_distinct_in
