-- A plan that is not ordered allows every permutation of each list that it allows.
use Rattle.std.proofs.Common.{◌≡◌, ◌≢◌, ℕ, zero, suc, Bool, true, false, not, List, [], ◌∷◌, ◌++◌, filter, flat_map, length, take, drop, refl, ap, sym, subst, ◌∙◌, arith}
use Rattle.std.specs.List.{All, AllByRecursion, Contains}
use Rattle.std.specs.List.Sorted.{IsPermutation}
use Rattle.std.proofs.lemmas.List.Elements.{recursion_from_All, All-weaker, filter-append, filter_passes}
use Rattle.std.proofs.lemmas.List.Sorted.{IsPermutation-refl, IsPermutation-cons, IsPermutation-trans, IsPermutation-append_left, All-permutation, Contains-permutation, length_permutation, IsPermutation-filter_both}
use Rattle.std.proofs.lemmas.List.{append-nil}
use Rattle.al_plan.specs.declared.expr.Var.{Var}
use Rattle.al_plan.specs.declared.plan.Plan.{Plan, map-Plan, roll-Plan, ind-Plan}
use Rattle.al_plan.specs.declared.plan.Plan.TheOpen as L
use Rattle.al_plan.specs.Eval.{Env, holds}
use Rattle.al_plan.specs.Allows.{Sets, Allowing, Allows, ordered, live, IsOrderOf, IsChecked, assigned, expanded, cut, beside, nulls, agg_row, Gives}
use Rattle.al_plan.proofs.PlanLaws.{Layer, allows-roll, ordered-roll}
use Rattle.al_plan.proofs.Moves.{IsPermutation-one, IsPermutation-lift, AllZip-permutation, filter_all, filter_none, AllPairs-permutation}

pub unroll : (x : L.Plan-F Plan) (b : Bool) (sets : Sets) (given : List Var) (outer rows : List Env) → Allows (roll-Plan x) b sets given outer rows → Layer x b sets given outer rows
unroll x b sets given outer rows h = subst (λ (a : Allowing). a b sets given outer rows) (allows-roll x) h

pub enroll : (x : L.Plan-F Plan) (b : Bool) (sets : Sets) (given : List Var) (outer rows : List Env) → Layer x b sets given outer rows → Allows (roll-Plan x) b sets given outer rows
enroll x b sets given outer rows h = subst (λ (a : Allowing). a b sets given outer rows) (sym (allows-roll x)) h

not_false : (b : Bool) → not b ≡ true → b ≡ false
not_false true h = sym h
not_false false h = refl

pub filter-lift : {X : Type 0} (p : X → Bool) (xs ys : List X) → IsPermutation (filter p xs) ys → (zs : List X) × IsPermutation xs zs × (ys ≡ filter p zs)
filter-lift {X} p xs ys h =
    let others = filter (λ x. not (p x)) xs in
    let all = All-permutation (λ x. p x ≡ true) (filter p xs) ys h (filter_passes p xs) in
    let none : AllByRecursion (λ x. p x ≡ false) others = weaker others (recursion_from_All (λ x. not (p x) ≡ true) others (filter_passes (λ x. not (p x)) xs)) in (
      ys ++ others,
      IsPermutation-trans _ _ _ (IsPermutation-filter_both p (λ x. not (p x)) (λ x. refl) xs) (IsPermutation-append_left others _ _ h),
      sym (filter-append p ys others ∙ ap (λ (zs : List X). zs ++ filter p others) (filter_all p ys (recursion_from_All _ ys all)) ∙ ap (λ (zs : List X). ys ++ zs) (filter_none p others none) ∙ append-nil ys),
    )
  where
    weaker : (zs : List X) → AllByRecursion (λ x. not (p x) ≡ true) zs → AllByRecursion (λ x. p x ≡ false) zs
    weaker [] h = tt
    weaker (z ∷ zs) h = (not_false (p z) h.0, weaker zs h.1)

take-front : {X : Type 0} (n : ℕ) (ys xs : List X) → length ys ≡ length (take n xs) → take n (ys ++ drop n xs) ≡ ys
take-front zero [] xs e = refl
take-front zero (y ∷ ys) xs e = absurd (omega arith)
take-front (suc n) [] [] e = refl
take-front (suc n) (y ∷ ys) [] e = absurd (omega arith)
take-front (suc n) [] (x ∷ xs) e = absurd (omega arith)
take-front (suc n) (y ∷ ys) (x ∷ xs) e = ap (λ zs. y ∷ zs) (take-front n ys xs (omega arith))

take-and-drop : {X : Type 0} (n : ℕ) (xs : List X) → take n xs ++ drop n xs ≡ xs
take-and-drop zero xs = refl
take-and-drop (suc n) [] = refl
take-and-drop (suc n) (x ∷ xs) = ap (λ zs. x ∷ zs) (take-and-drop n xs)

pub limit-lift : {X : Type 0} (n k : ℕ) (xs ys : List X) → IsPermutation (take n (drop k xs)) ys → (zs : List X) × IsPermutation xs zs × (ys ≡ take n (drop k zs))
limit-lift n zero xs ys h = (
  ys ++ drop n xs,
  subst (λ (zs : List _). IsPermutation zs (ys ++ drop n xs)) (take-and-drop n xs) (IsPermutation-append_left (drop n xs) _ _ h),
  sym (take-front n ys xs (length_permutation _ _ h)),
)
limit-lift n (suc k) [] ys h = ([], IsPermutation-refl [], none n ys h)
  where
    none : {X : Type 0} (n : ℕ) (ys : List X) → IsPermutation (take n []) ys → ys ≡ take n []
    none zero [] h = refl
    none (suc n) [] h = refl
    none zero (y ∷ ys) h = absurd (omega (arith, length_permutation _ _ h))
    none (suc n) (y ∷ ys) h = absurd (omega (arith, length_permutation _ _ h))
limit-lift n (suc k) (x ∷ xs) ys h = let more = limit-lift n k xs ys h in (x ∷ more.0, IsPermutation-cons x _ _ more.1, more.2)

-- whether each list that the plan allows may stand in any order
abbrev pub IsFree : Plan → Type 0
IsFree p = ordered p ≡ false → (b : Bool) (sets : Sets) (given : List Var) (outer rows moved : List Env) → Allows p b sets given outer rows → IsPermutation rows moved → Allows p b sets given outer moved

checked : (b : Bool) (P : Env → Type 0) (rows moved : List Env) → IsPermutation rows moved → IsChecked b (All P rows) → IsChecked b (All P moved)
checked true P rows moved m h = tt
checked false P rows moved m h = All-permutation P rows moved m h

not_ordered : true ≡ false → ⊥
not_ordered e = cc

-- of one layer whose inputs are free where they are not ordered
module _ {S : Type 0} (up : S → Plan) (ih : (s : S) → IsFree (up s)) where
  layer : (y : L.Plan-F S) → IsFree (roll-Plan (map-Plan S Plan up y))
  layer (L.Scan set vars) e b sets given outer rows moved h m = enroll (L.Scan set vars) b sets given outer moved (IsPermutation-trans _ _ _ (unroll (L.Scan set vars) b sets given outer rows h) m)
  layer L.Empty e b sets given outer rows moved h m =
      let one = unroll L.Empty b sets given outer rows h in
      enroll L.Empty b sets given outer moved (IsPermutation-one nulls moved (subst (λ (xs : List Env). IsPermutation xs moved) one m))
  layer L.Nested e b sets given outer rows moved h m = enroll L.Nested b sets given outer moved (IsPermutation-trans _ _ _ (unroll L.Nested b sets given outer rows h) m)
  layer (L.Assign made s) e b sets given outer rows moved h m =
      let x : L.Plan-F Plan = L.Assign made (up s) in
      let o = unroll (L.Assign made (up s)) b sets given outer rows h in
      let l = IsPermutation-lift (assigned made) o.0 moved (subst (λ (xs : List Env). IsPermutation xs moved) o.2 m) in
      enroll (L.Assign made (up s)) b sets given outer moved (l.0, ih s (sym (ordered-roll x) ∙ e) b sets given outer o.0 l.0 o.1 l.1, l.2)
  layer (L.Select c s) e b sets given outer rows moved h m =
      let x : L.Plan-F Plan = L.Select c (up s) in
      let o = unroll (L.Select c (up s)) b sets given outer rows h in
      let l = filter-lift (holds c) o.0 moved (subst (λ (xs : List Env). IsPermutation xs moved) o.2 m) in
      enroll (L.Select c (up s)) b sets given outer moved (l.0, ih s (sym (ordered-roll x) ∙ e) b sets given outer o.0 l.0 o.1 l.1, l.2)
  layer (L.Project vars s) e b sets given outer rows moved h m =
      let x : L.Plan-F Plan = L.Project vars (up s) in
      let o = unroll (L.Project vars (up s)) b sets given outer rows h in
      let l = IsPermutation-lift (cut vars) o.0 moved (subst (λ (xs : List Env). IsPermutation xs moved) o.2 m) in
      enroll (L.Project vars (up s)) b sets given outer moved (l.0, ih s (sym (ordered-roll x) ∙ e) b sets given outer o.0 l.0 o.1 l.1, l.2)
  layer (L.Unnest v g s) e b sets given outer rows moved h m =
      let x : L.Plan-F Plan = L.Unnest v g (up s) in
      let free : ordered (up s) ≡ false = sym (ordered-roll x) ∙ e in
      let o = unroll (L.Unnest v g (up s)) b sets given outer rows h in
      let any = subst (λ t. IsOrderOf t (flat_map (expanded v g) o.0) rows) free o.2 in
      enroll (L.Unnest v g (up s)) b sets given outer moved (o.0, o.1, subst (λ t. IsOrderOf t (flat_map (expanded v g) o.0) moved) (sym free) (IsPermutation-trans _ _ _ any m))
  layer (L.Subplan n s) e b sets given outer rows moved h m =
      let x : L.Plan-F Plan = L.Subplan (up n) (up s) in
      let o = unroll (L.Subplan (up n) (up s)) b sets given outer rows h in
      let l = AllZip-permutation (λ r row. Gives (Allows (up n)) b sets (live (up s) given) (r ∷ []) (λ inner. row ≡ beside (live (up n) (live (up s) given)) inner r)) o.0 rows moved o.2 m in
      enroll (L.Subplan (up n) (up s)) b sets given outer moved (l.0, ih s (sym (ordered-roll x) ∙ e) b sets given outer o.0 l.0 o.1 l.1, l.2)
  layer (L.Join c l r) e b sets given outer rows moved h m =
      let o = unroll (L.Join c (up l) (up r)) b sets given outer rows h in
      enroll (L.Join c (up l) (up r)) b sets given outer moved (o.0, o.1, (o.2.0, o.2.1, IsPermutation-trans _ _ _ o.2.2 m))
  layer (L.LeftJoin c l r) e b sets given outer rows moved h m =
      let o = unroll (L.LeftJoin c (up l) (up r)) b sets given outer rows h in
      enroll (L.LeftJoin c (up l) (up r)) b sets given outer moved (o.0, o.1, (o.2.0, o.2.1, IsPermutation-trans _ _ _ o.2.2 m))
  layer (L.Group keys n s) e b sets given outer rows moved h m =
      let o = unroll (L.Group keys (up n) (up s)) b sets given outer rows h in
      enroll (L.Group keys (up n) (up s)) b sets given outer moved (o.0, o.1, (o.2.0, o.2.1, o.2.2, o.2.3, IsPermutation-trans _ _ _ o.2.4 m))
  layer (L.Distinct s) e b sets given outer rows moved h m =
      let o = unroll (L.Distinct (up s)) b sets given outer rows h in
      enroll (L.Distinct (up s)) b sets given outer moved (
        o.0,
        o.1,
        record {
          within = All-permutation (Contains o.0) rows moved m o.2.within;
          all = All-weaker (Contains rows) (Contains moved) (λ r. Contains-permutation rows moved r m) o.0 o.2.all;
          once = AllPairs-permutation ◌≢◌ (λ r s f g. f (sym g)) rows moved m o.2.once;
        },
      )
  layer (L.Union made ls rs l r) e b sets given outer rows moved h m =
      let o = unroll (L.Union made ls rs (up l) (up r)) b sets given outer rows h in
      enroll (L.Union made ls rs (up l) (up r)) b sets given outer moved (o.0, o.1, (o.2.0, o.2.1, IsPermutation-trans _ _ _ o.2.2 m))
  layer (L.Aggregate made s) e b sets given outer rows moved h m =
      let o = unroll (L.Aggregate made (up s)) b sets given outer rows h in
      enroll (L.Aggregate made (up s)) b sets given outer moved (o.0, o.1, IsPermutation-one (agg_row made o.0) moved (subst (λ (xs : List Env). IsPermutation xs moved) o.2 m))
  layer (L.Order keys s) e b sets given outer rows moved h m =
      let x : L.Plan-F Plan = L.Order keys (up s) in
      absurd (not_ordered (sym (ordered-roll x) ∙ e))
  layer (L.Limit n k s) e b sets given outer rows moved h m =
      let x : L.Plan-F Plan = L.Limit n k (up s) in
      let o = unroll (L.Limit n k (up s)) b sets given outer rows h in
      let l = limit-lift n k o.0 moved (subst (λ (xs : List Env). IsPermutation xs moved) o.2 m) in
      enroll (L.Limit n k (up s)) b sets given outer moved (l.0, ih s (sym (ordered-roll x) ∙ e) b sets given outer o.0 l.0 o.1 l.1, l.2)
  layer (L.Check name c s) e b sets given outer rows moved h m =
      let x : L.Plan-F Plan = L.Check name c (up s) in
      let o = unroll (L.Check name c (up s)) b sets given outer rows h in
      enroll (L.Check name c (up s)) b sets given outer moved (ih s (sym (ordered-roll x) ∙ e) b sets given outer rows moved o.0 m, checked b (λ r. holds c r ≡ true) rows moved m o.1)
  layer (L.Result vars s) e b sets given outer rows moved h m =
      let x : L.Plan-F Plan = L.Result vars (up s) in
      let o = unroll (L.Result vars (up s)) b sets given outer rows h in
      let l = IsPermutation-lift (cut vars) o.0 moved (subst (λ (xs : List Env). IsPermutation xs moved) o.2 m) in
      enroll (L.Result vars (up s)) b sets given outer moved (l.0, ih s (sym (ordered-roll x) ∙ e) b sets given outer o.0 l.0 o.1 l.1, l.2)

pub free : (p : Plan) → IsFree p
free = ind-Plan IsFree (λ x y e. subst (λ (z : L.Plan-F Plan). IsFree (roll-Plan z)) e (layer (λ s. s.0) (λ s. s.1) y))
