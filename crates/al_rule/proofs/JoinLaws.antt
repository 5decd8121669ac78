-- The laws of joins and left joins over the same inputs.
use Rattle.std.proofs.Common.{◌≡◌, Bool, cond, List, [], ◌∷◌, ◌++◌, filter, refl, sym, subst}
use Rattle.std.specs.List.{AllByRecursion}
use Rattle.std.specs.List.Sorted.{IsPermutation}
use Rattle.al_plan.specs.declared.expr.Var.{Var}
use Rattle.al_plan.specs.declared.expr.Expr.{Expr}
use Rattle.al_plan.specs.declared.plan.Plan.{Plan}
use Rattle.al_plan.specs.declared.plan.Plan.TheVariants as P
use Rattle.al_plan.specs.Eval.{Env, holds}
use Rattle.al_plan.specs.Allows.{Sets, Allows, live, beside, nulls, matches, pairs, left_pairs, or_alone}
use Rattle.al_rule.specs.Pairs.{SplitsRight}
use Rattle.al_rule.specs.Laws.{OfPairs, PairsDecide}
use Rattle.al_plan.proofs.PlanLaws.{allows_Select, allows_Join, allows_LeftJoin, from_Join, from_LeftJoin}
use Rattle.al_rule.proofs.Joins.{all_pairs, rows_within, pairs_right, left_pairs_right, join_left_in, join_left_out, join_right_out, left_join_right_out}

-- two conditions that are TRUE for the same pair
abbrev Agree : List Var → Expr → Expr → Env → Env → Type 0
Agree xs c d a b = holds c (beside xs a b) ≡ holds d (beside xs a b)

matches_agree : (xs : List Var) (c d : Expr) (a : Env) (rs : List Env) → AllByRecursion (Agree xs c d a) rs → matches xs c rs a ≡ matches xs d rs a
matches_agree xs c d a [] h = refl
matches_agree xs c d a (b ∷ rs) h = λ i. cond (h.0 i) (beside xs a b ∷ matches_agree xs c d a rs h.1 i) (matches_agree xs c d a rs h.1 i)

pairs_agree : (xs : List Var) (c d : Expr) (ls rs : List Env) → AllByRecursion (λ a. AllByRecursion (Agree xs c d a) rs) ls → pairs xs c ls rs ≡ pairs xs d ls rs
pairs_agree xs c d [] rs h = refl
pairs_agree xs c d (a ∷ ls) rs h = λ i. matches_agree xs c d a rs h.0 i ++ pairs_agree xs c d ls rs h.1 i

left_pairs_agree : (xs : List Var) (c d : Expr) (ls rs : List Env) → AllByRecursion (λ a. AllByRecursion (Agree xs c d a) rs) ls → left_pairs xs c ls rs ≡ left_pairs xs d ls rs
left_pairs_agree xs c d [] rs h = refl
left_pairs_agree xs c d (a ∷ ls) rs h = λ i. or_alone (beside xs a nulls) (matches_agree xs c d a rs h.0 i) ++ left_pairs_agree xs c d ls rs h.1 i

join_agree : (c d : Expr) (l r : Plan) → OfPairs l r (Agree (live l []) c d) → (b : Bool) (sets : Sets) (rows : List Env) → Allows (P.Join c l r) b sets [] [] rows → Allows (P.Join d l r) b sets [] [] rows
join_agree c d l r f b sets rows h =
    let o = from_Join c l r b sets [] [] rows h in
    let same = pairs_agree (live l []) c d o.0 o.2.0 (all_pairs (live l []) (live r []) (Agree (live l []) c d) f o.0 o.2.0 (rows_within l b sets o.0 o.1) (rows_within r b sets o.2.0 o.2.1)) in
    allows_Join d l r b sets [] [] rows (o.0, o.1, (o.2.0, o.2.1, subst (λ (zs : List Env). IsPermutation zs rows) same o.2.2))

left_join_agree : (c d : Expr) (l r : Plan) → OfPairs l r (Agree (live l []) c d) → (b : Bool) (sets : Sets) (rows : List Env) → Allows (P.LeftJoin c l r) b sets [] [] rows → Allows (P.LeftJoin d l r) b sets [] [] rows
left_join_agree c d l r f b sets rows h =
    let o = from_LeftJoin c l r b sets [] [] rows h in
    let same = left_pairs_agree (live l []) c d o.0 o.2.0 (all_pairs (live l []) (live r []) (Agree (live l []) c d) f o.0 o.2.0 (rows_within l b sets o.0 o.1) (rows_within r b sets o.2.0 o.2.1)) in
    allows_LeftJoin d l r b sets [] [] rows (o.0, o.1, (o.2.0, o.2.1, subst (λ (zs : List Env). IsPermutation zs rows) same o.2.2))

-- a join and one that keeps first what its condition asks of the right row, and the same of left joins
join_right_in : (d e c : Expr) (l r : Plan) → OfPairs l r (SplitsRight (live l []) d e c) → (b : Bool) (sets : Sets) (rows : List Env) → Allows (P.Join d l r) b sets [] [] rows → Allows (P.Join c l (P.Select e r)) b sets [] [] rows
join_right_in d e c l r f b sets rows h =
    let o = from_Join d l r b sets [] [] rows h in
    let same = pairs_right (live l []) d e c o.0 o.2.0 (all_pairs (live l []) (live r []) (SplitsRight (live l []) d e c) f o.0 o.2.0 (rows_within l b sets o.0 o.1) (rows_within r b sets o.2.0 o.2.1)) in
    allows_Join c l (P.Select e r) b sets [] [] rows (
      o.0,
      o.1,
      (filter (holds e) o.2.0, allows_Select e r b sets [] [] _ (o.2.0, o.2.1, refl), subst (λ (zs : List Env). IsPermutation zs rows) same o.2.2),
    )

left_join_right_in : (d e c : Expr) (l r : Plan) → OfPairs l r (SplitsRight (live l []) d e c) → (b : Bool) (sets : Sets) (rows : List Env) → Allows (P.LeftJoin d l r) b sets [] [] rows → Allows (P.LeftJoin c l (P.Select e r)) b sets [] [] rows
left_join_right_in d e c l r f b sets rows h =
    let o = from_LeftJoin d l r b sets [] [] rows h in
    let same = left_pairs_right (live l []) d e c o.0 o.2.0 (all_pairs (live l []) (live r []) (SplitsRight (live l []) d e c) f o.0 o.2.0 (rows_within l b sets o.0 o.1) (rows_within r b sets o.2.0 o.2.1)) in
    allows_LeftJoin c l (P.Select e r) b sets [] [] rows (
      o.0,
      o.1,
      (filter (holds e) o.2.0, allows_Select e r b sets [] [] _ (o.2.0, o.2.1, refl), subst (λ (zs : List Env). IsPermutation zs rows) same o.2.2),
    )

pub pairs_decide : PairsDecide
pairs_decide = record {
  joins = λ c d l r f b sets rows. (join_agree c d l r f b sets rows, join_agree d c l r (λ a z w v. sym (f a z w v)) b sets rows);
  left_joins = λ c d l r f b sets rows. (left_join_agree c d l r f b sets rows, left_join_agree d c l r (λ a z w v. sym (f a z w v)) b sets rows);
  join_left = λ d e c l r f b sets rows. (join_left_in d e c l r f b sets rows, join_left_out d e c l r f b sets rows);
  join_right = λ d e c l r f b sets rows. (join_right_in d e c l r f b sets rows, join_right_out d e c l r f b sets rows);
  left_join_right = λ d e c l r f b sets rows. (left_join_right_in d e c l r f b sets rows, left_join_right_out d e c l r f b sets rows);
}
