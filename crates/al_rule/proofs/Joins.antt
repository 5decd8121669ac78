-- Joins whose conditions are TRUE for the same pairs.
use Rattle.std.proofs.Common.{◌≡◌, Bool, true, false, cond, ◌&&◌, List, [], ◌∷◌, ◌++◌, map, filter, flat_map, refl, ap, sym, subst, ◌∙◌, arith}
use Rattle.std.specs.List.{AllByRecursion}
use Rattle.std.specs.List.Sorted.{IsPermutation}
use Rattle.std.proofs.lemmas.List.Elements.{recursion_from_All, filter-append}
use Rattle.al_plan.specs.declared.expr.Var.{Var}
use Rattle.al_plan.specs.declared.expr.Expr.{Expr}
use Rattle.al_plan.specs.declared.plan.Plan.{Plan}
use Rattle.al_plan.specs.declared.plan.Plan.TheVariants as P
use Rattle.al_plan.specs.Eval.{Env, holds}
use Rattle.al_rule.specs.Pairs.{SplitsLeft, SplitsRight, IsBoth}
use Rattle.al_plan.specs.Allows.{Sets, Allows, live, beside, nulls, matches, pairs, left_pairs, or_alone}
use Rattle.al_plan.specs.Refines.{IsWithin}
use Rattle.al_plan.proofs.PlanLaws.{allows_Select, allows_Join, allows_LeftJoin, from_Select, from_Join, from_LeftJoin, live-Select}
use Rattle.al_plan.proofs.Orders.{filter-lift}
use Rattle.al_plan.proofs.Within.{within}

keep_right : {X : Type 0} (p : X → Bool) (g : Env → X) (b : Env) (t u : Bool) (all : List X) (rest : List Env) → u ≡ (t && p (g b)) → all ≡ filter p (map g rest) → cond u (g b ∷ all) all ≡ filter p (map g (cond t (b ∷ rest) rest))
keep_right p g b true u all rest h more = λ i. cond (h i) (g b ∷ more i) (more i)
keep_right p g b false u all rest h more = ap (λ t. cond t (g b ∷ all) all) h ∙ more

matches_right : (xs : List Var) (d e c : Expr) (a : Env) (rs : List Env) → AllByRecursion (SplitsRight xs d e c a) rs → matches xs d rs a ≡ matches xs c (filter (holds e) rs) a
matches_right xs d e c a [] h = refl
matches_right xs d e c a (b ∷ rs) h = keep_right (holds c) (beside xs a) b (holds e b) (holds d (beside xs a b)) _ (filter (holds e) rs) h.0 (matches_right xs d e c a rs h.1)

matches_left : (xs : List Var) (d e c : Expr) (a : Env) (t : Bool) → holds e a ≡ t → (rs : List Env) → AllByRecursion (SplitsLeft xs d e c a) rs → matches xs d rs a ≡ cond t (matches xs c rs a) []
matches_left xs d e c a true same [] h = refl
matches_left xs d e c a false same [] h = refl
matches_left xs d e c a true same (b ∷ rs) h = λ i. cond ((h.0 ∙ ap (λ t. t && holds c (beside xs a b)) same) i) (beside xs a b ∷ matches_left xs d e c a true same rs h.1 i) (matches_left xs d e c a true same rs h.1 i)
matches_left xs d e c a false same (b ∷ rs) h = ap (λ t. cond t (beside xs a b ∷ matches xs d rs a) (matches xs d rs a)) (h.0 ∙ ap (λ t. t && holds c (beside xs a b)) same) ∙ matches_left xs d e c a false same rs h.1

pub flat_cond : {X Y : Type 0} (f : X → List Y) (t : Bool) (x : X) (xs : List X) → flat_map f (cond t (x ∷ xs) xs) ≡ cond t (f x) [] ++ flat_map f xs
flat_cond f true x xs = refl
flat_cond f false x xs = refl

pairs_left : (xs : List Var) (d e c : Expr) (ls rs : List Env) → AllByRecursion (λ a. AllByRecursion (SplitsLeft xs d e c a) rs) ls → pairs xs d ls rs ≡ pairs xs c (filter (holds e) ls) rs
pairs_left xs d e c [] rs h = refl
pairs_left xs d e c (a ∷ ls) rs h = (λ i. matches_left xs d e c a (holds e a) refl rs h.0 i ++ pairs_left xs d e c ls rs h.1 i) ∙ sym (flat_cond (matches xs c rs) (holds e a) a (filter (holds e) ls))

pub pairs_right : (xs : List Var) (d e c : Expr) (ls rs : List Env) → AllByRecursion (λ a. AllByRecursion (SplitsRight xs d e c a) rs) ls → pairs xs d ls rs ≡ pairs xs c ls (filter (holds e) rs)
pairs_right xs d e c [] rs h = refl
pairs_right xs d e c (a ∷ ls) rs h = λ i. matches_right xs d e c a rs h.0 i ++ pairs_right xs d e c ls rs h.1 i

pub left_pairs_right : (xs : List Var) (d e c : Expr) (ls rs : List Env) → AllByRecursion (λ a. AllByRecursion (SplitsRight xs d e c a) rs) ls → left_pairs xs d ls rs ≡ left_pairs xs c ls (filter (holds e) rs)
left_pairs_right xs d e c [] rs h = refl
left_pairs_right xs d e c (a ∷ ls) rs h = λ i. or_alone (beside xs a nulls) (matches_right xs d e c a rs h.0 i) ++ left_pairs_right xs d e c ls rs h.1 i

-- what holds of each two rows within these variables holds of all pairs of rows
pub all_pairs : (xs ys : List Var) (Q : Env → Env → Type 0) → ((a b : Env) → IsWithin xs a → IsWithin ys b → Q a b) → (ls rs : List Env) → AllByRecursion (IsWithin xs) ls → AllByRecursion (IsWithin ys) rs → AllByRecursion (λ a. AllByRecursion (Q a) rs) ls
all_pairs xs ys Q f [] rs h g = tt
all_pairs xs ys Q f (a ∷ ls) rs h g = (each a h.0 rs g, all_pairs xs ys Q f ls rs h.1 g)
  where
    each : (a : Env) → IsWithin xs a → (rs : List Env) → AllByRecursion (IsWithin ys) rs → AllByRecursion (Q a) rs
    each a w [] g = tt
    each a w (b ∷ rs) g = (f a b w g.0, each a w rs g.1)

pub rows_within : (p : Plan) (b : Bool) (sets : Sets) (rows : List Env) → Allows p b sets [] [] rows → AllByRecursion (IsWithin (live p [])) rows
rows_within p b sets rows h = recursion_from_All (IsWithin (live p [])) rows (within p b sets [] [] rows (λ k d low. absurd (omega arith)) h)

-- a join and one that keeps first what its condition asks of the left row
pub join_left_in : (d e c : Expr) (l r : Plan) → ((a b : Env) → IsWithin (live l []) a → IsWithin (live r []) b → SplitsLeft (live l []) d e c a b) → (b : Bool) (sets : Sets) (rows : List Env) → Allows (P.Join d l r) b sets [] [] rows → Allows (P.Join c (P.Select e l) r) b sets [] [] rows
join_left_in d e c l r f b sets rows h =
    let o = from_Join d l r b sets [] [] rows h in
    let same = pairs_left (live l []) d e c o.0 o.2.0 (all_pairs (live l []) (live r []) (SplitsLeft (live l []) d e c) f o.0 o.2.0 (rows_within l b sets o.0 o.1) (rows_within r b sets o.2.0 o.2.1)) in
    allows_Join c (P.Select e l) r b sets [] [] rows (
      filter (holds e) o.0,
      allows_Select e l b sets [] [] _ (o.0, o.1, refl),
      (
        o.2.0,
        o.2.1,
        subst (λ (vs : List Var). IsPermutation (pairs vs c (filter (holds e) o.0) o.2.0) rows) (sym (live-Select e l [])) (subst (λ (zs : List Env). IsPermutation zs rows) same o.2.2),
      ),
    )

pub join_left_out : (d e c : Expr) (l r : Plan) → ((a b : Env) → IsWithin (live l []) a → IsWithin (live r []) b → SplitsLeft (live l []) d e c a b) → (b : Bool) (sets : Sets) (rows : List Env) → Allows (P.Join c (P.Select e l) r) b sets [] [] rows → Allows (P.Join d l r) b sets [] [] rows
join_left_out d e c l r f b sets rows h =
    let o = from_Join c (P.Select e l) r b sets [] [] rows h in
    let s = from_Select e l b sets [] [] o.0 o.1 in
    let same = pairs_left (live l []) d e c s.0 o.2.0 (all_pairs (live l []) (live r []) (SplitsLeft (live l []) d e c) f s.0 o.2.0 (rows_within l b sets s.0 s.1) (rows_within r b sets o.2.0 o.2.1)) in
    let here : IsPermutation (pairs (live l []) c o.0 o.2.0) rows = subst (λ (vs : List Var). IsPermutation (pairs vs c o.0 o.2.0) rows) (live-Select e l []) o.2.2 in
    let kept : IsPermutation (pairs (live l []) c (filter (holds e) s.0) o.2.0) rows = subst (λ (zs : List Env). IsPermutation (pairs (live l []) c zs o.2.0) rows) s.2 here in
    allows_Join d l r b sets [] [] rows (s.0, s.1, (o.2.0, o.2.1, subst (λ (zs : List Env). IsPermutation zs rows) (sym same) kept))

-- the same on the right, for both joins
pub join_right_out : (d e c : Expr) (l r : Plan) → ((a b : Env) → IsWithin (live l []) a → IsWithin (live r []) b → SplitsRight (live l []) d e c a b) → (b : Bool) (sets : Sets) (rows : List Env) → Allows (P.Join c l (P.Select e r)) b sets [] [] rows → Allows (P.Join d l r) b sets [] [] rows
join_right_out d e c l r f b sets rows h =
    let o = from_Join c l (P.Select e r) b sets [] [] rows h in
    let s = from_Select e r b sets [] [] o.2.0 o.2.1 in
    let same = pairs_right (live l []) d e c o.0 s.0 (all_pairs (live l []) (live r []) (SplitsRight (live l []) d e c) f o.0 s.0 (rows_within l b sets o.0 o.1) (rows_within r b sets s.0 s.1)) in
    let kept : IsPermutation (pairs (live l []) c o.0 (filter (holds e) s.0)) rows = subst (λ (zs : List Env). IsPermutation (pairs (live l []) c o.0 zs) rows) s.2 o.2.2 in
    allows_Join d l r b sets [] [] rows (o.0, o.1, (s.0, s.1, subst (λ (zs : List Env). IsPermutation zs rows) (sym same) kept))

pub left_join_right_out : (d e c : Expr) (l r : Plan) → ((a b : Env) → IsWithin (live l []) a → IsWithin (live r []) b → SplitsRight (live l []) d e c a b) → (b : Bool) (sets : Sets) (rows : List Env) → Allows (P.LeftJoin c l (P.Select e r)) b sets [] [] rows → Allows (P.LeftJoin d l r) b sets [] [] rows
left_join_right_out d e c l r f b sets rows h =
    let o = from_LeftJoin c l (P.Select e r) b sets [] [] rows h in
    let s = from_Select e r b sets [] [] o.2.0 o.2.1 in
    let same = left_pairs_right (live l []) d e c o.0 s.0 (all_pairs (live l []) (live r []) (SplitsRight (live l []) d e c) f o.0 s.0 (rows_within l b sets o.0 o.1) (rows_within r b sets s.0 s.1)) in
    let kept : IsPermutation (left_pairs (live l []) c o.0 (filter (holds e) s.0)) rows = subst (λ (zs : List Env). IsPermutation (left_pairs (live l []) c o.0 zs) rows) s.2 o.2.2 in
    allows_LeftJoin d l r b sets [] [] rows (o.0, o.1, (s.0, s.1, subst (λ (zs : List Env). IsPermutation zs rows) (sym same) kept))

pub filter-both : (d c e : Expr) → IsBoth d c e → (rows : List Env) → filter (holds e) (filter (holds c) rows) ≡ filter (holds d) rows
filter-both d c e h [] = refl
filter-both d c e h (r ∷ rows) = go (holds c r) (holds d r) (h r) ∙ ap (λ zs. cond (holds d r) (r ∷ zs) zs) (filter-both d c e h rows)
  where
    go : (t u : Bool) → u ≡ (t && holds e r) → filter (holds e) (cond t (r ∷ filter (holds c) rows) (filter (holds c) rows)) ≡ cond u (r ∷ filter (holds e) (filter (holds c) rows)) (filter (holds e) (filter (holds c) rows))
    go true u h = ap (λ t. cond t (r ∷ filter (holds e) (filter (holds c) rows)) (filter (holds e) (filter (holds c) rows))) (sym h)
    go false u h = ap (λ t. cond t (r ∷ filter (holds e) (filter (holds c) rows)) (filter (holds e) (filter (holds c) rows))) (sym h)

pub filter-flat : {X Y : Type 0} (p : Y → Bool) (f : X → List Y) (xs : List X) → filter p (flat_map f xs) ≡ flat_map (λ x. filter p (f x)) xs
filter-flat p f [] = refl
filter-flat p f (x ∷ xs) = filter-append p (f x) (flat_map f xs) ∙ ap (λ zs. filter p (f x) ++ zs) (filter-flat p f xs)

flat-agree : {X Y : Type 0} (f g : X → List Y) → ((x : X) → f x ≡ g x) → (xs : List X) → flat_map f xs ≡ flat_map g xs
flat-agree f g h [] = refl
flat-agree f g h (x ∷ xs) = λ i. h x i ++ flat-agree f g h xs i

pub filter-pairs : (d c e : Expr) → IsBoth d c e → (xs : List Var) (ls rs : List Env) → filter (holds e) (pairs xs c ls rs) ≡ pairs xs d ls rs
filter-pairs d c e h xs ls rs = filter-flat (holds e) (matches xs c rs) ls ∙ flat-agree _ _ (λ l. filter-both d c e h (map (beside xs l) rs)) ls

pub select_join_out : (d c e : Expr) → IsBoth d c e → (l r : Plan) (b : Bool) (sets : Sets) (given : List Var) (outer rows : List Env) → Allows (P.Join d l r) b sets given outer rows → Allows (P.Select e (P.Join c l r)) b sets given outer rows
select_join_out d c e k l r b sets given outer rows h =
    let o = from_Join d l r b sets given outer rows h in
    let all = filter-lift (holds e) (pairs (live l given) c o.0 o.2.0) rows (subst (λ (zs : List Env). IsPermutation zs rows) (sym (filter-pairs d c e k (live l given) o.0 o.2.0)) o.2.2) in
    allows_Select e (P.Join c l r) b sets given outer rows (all.0, allows_Join c l r b sets given outer all.0 (o.0, o.1, (o.2.0, o.2.1, all.1)), all.2)
