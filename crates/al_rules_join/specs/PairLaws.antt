-- What a pair of rows gives for conditions of one of its rows, and joins under selects.
use Rattle.std.proofs.Common.{◌≡◌, Bool, true, false, cond, ◌&&◌, List, [], ◌∷◌, ◌++◌, filter, refl, ap, sym, subst, ◌∙◌}
use Rattle.std.specs.Prelude.{if◌then◌else◌}
use Rattle.std.specs.List.{AllByRecursion, list_all}
use Rattle.std.specs.List.Sorted.{IsPermutation}
use Rattle.std.proofs.lemmas.List.Elements.{filter-append}
use Rattle.al_func.specs.Func.{is_true}
use Rattle.al_plan.proofs.Bools.{no}
use Rattle.al_plan.specs.declared.expr.Var.{Var}
use Rattle.al_plan.specs.declared.expr.Expr.{Expr}
use Rattle.al_plan.specs.declared.plan.Plan.{Plan}
use Rattle.al_plan.specs.declared.plan.Plan.TheVariants as P
use Rattle.al_plan.specs.Eval.{Bytes, Env, holds}
use Rattle.al_plan.specs.Names.{names}
use Rattle.al_plan.specs.Allows.{Sets, Allows, live, is_among, beside, nulls, matches, pairs, left_pairs, or_alone}
use Rattle.al_plan.specs.Refines.{AreAmong}
use Rattle.al_plan.proofs.Makes.{Disjoint}
use Rattle.al_plan.proofs.Orders.{filter-lift}
use Rattle.al_plan.proofs.PlanLaws.{allows_Select, allows_LeftJoin, from_Join}
use Rattle.al_rule.specs.Pairs.{IsBoth}
use Rattle.al_rule.proofs.Joins.{filter-pairs}
use Rattle.al_rule.proofs.ReadLaws.{eval-names}

pub both_true : (a b : Bool) → (a && b) ≡ true → (a ≡ true) × (b ≡ true)
both_true true b h = (refl, h)
both_true false b h = absurd (no (sym h))

-- names that pass a test of each
pub among_all : (vars : List Var) (qs : List Bytes) → list_all (is_among vars) qs ≡ true → AreAmong vars qs
among_all vars [] h = tt
among_all vars (q ∷ qs) h = let parts = both_true (is_among vars q) (list_all (is_among vars) qs) h in (parts.0, among_all vars qs parts.1)

beside_right : (xs ys : List Var) (a b : Env) → Disjoint ys xs → (qs : List Bytes) → AreAmong ys qs → AllByRecursion (λ q. beside xs a b q ≡ b q) qs
beside_right xs ys a b apart [] h = tt
beside_right xs ys a b apart (q ∷ qs) h = (ap (λ t. if t then a q else b q) (apart q h.0), beside_right xs ys a b apart qs h.1)

-- an expression over the second row's variables sees the second row
pub holds-beside_right : (e : Expr) (xs ys : List Var) (a b : Env) → Disjoint ys xs → AreAmong ys (names e) → holds e (beside xs a b) ≡ holds e b
holds-beside_right e xs ys a b apart h = ap is_true (eval-names e (beside xs a b) b (beside_right xs ys a b apart (names e) h))

-- a select that is not TRUE of a row that is alone keeps no such row
filter-alone : (e : Expr) (a : Env) (rows : List Env) → holds e a ≡ false → filter (holds e) (or_alone a rows) ≡ filter (holds e) rows
filter-alone e a [] h = ap (λ t. cond t (a ∷ []) []) h
filter-alone e a (r ∷ rows) h = refl

filter-left_pairs : (xs : List Var) (c e : Expr) (ls rs : List Env) → ((a : Env) → holds e (beside xs a nulls) ≡ false) → filter (holds e) (left_pairs xs c ls rs) ≡ filter (holds e) (pairs xs c ls rs)
filter-left_pairs xs c e [] rs h = refl
filter-left_pairs xs c e (a ∷ ls) rs h =
    filter-append (holds e) (or_alone (beside xs a nulls) (matches xs c rs a)) (left_pairs xs c ls rs)
    ∙ (λ i. filter-alone e (beside xs a nulls) (matches xs c rs a) (h a) i ++ filter-left_pairs xs c e ls rs h i)
    ∙ sym (filter-append (holds e) (matches xs c rs a) (pairs xs c ls rs))

pub left_join_out : (d c e : Expr) → IsBoth d c e → (l r : Plan) (b : Bool) (sets : Sets) (given : List Var) (outer rows : List Env) → ((a : Env) → holds e (beside (live l given) a nulls) ≡ false) → Allows (P.Join d l r) b sets given outer rows → Allows (P.Select e (P.LeftJoin c l r)) b sets given outer rows
left_join_out d c e k l r b sets given outer rows fails h =
    let o = from_Join d l r b sets given outer rows h in
    let same : pairs (live l given) d o.0 o.2.0 ≡ filter (holds e) (left_pairs (live l given) c o.0 o.2.0) = sym (filter-left_pairs (live l given) c e o.0 o.2.0 fails ∙ filter-pairs d c e k (live l given) o.0 o.2.0) in
    let all = filter-lift (holds e) (left_pairs (live l given) c o.0 o.2.0) rows (subst (λ (zs : List Env). IsPermutation zs rows) same o.2.2) in
    allows_Select e (P.LeftJoin c l r) b sets given outer rows (all.0, allows_LeftJoin c l r b sets given outer all.0 (o.0, o.1, (o.2.0, o.2.1, all.1)), all.2)
