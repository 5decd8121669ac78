-- A select passes an order.
use Rattle.std.proofs.Common.{◌≡◌, zero, suc, Bool, true, false, not, cond, List, [], ◌∷◌, ◌++◌, filter, refl, ap, sym, subst, ◌∙◌, arith, add-one}
use Rattle.std.specs.List.{AllByRecursion}
use Rattle.std.specs.List.Sorted.{IsPermutation, IsSorted, IsSortedBy}
use Rattle.std.specs.Ordering.{is_lt}
use Rattle.std.proofs.lemmas.List.Kept.{IsSortedBy-filter}
use Rattle.std.proofs.lemmas.List.Elements.{recursion_from_All, filter_passes}
use Rattle.std.proofs.lemmas.List.Sorted.{IsPermutation-refl, IsPermutation-trans, IsPermutation-cons, IsPermutation-append_left, IsPermutation-append_comm, IsPermutation-filter_both, All-permutation, ranks_by}
use Rattle.al_plan.specs.declared.expr.Var.{Var}
use Rattle.al_plan.specs.declared.expr.Expr.{Expr}
use Rattle.al_plan.specs.declared.plan.OrderKey.{OrderKey}
use Rattle.al_plan.specs.declared.plan.Plan.{Plan}
use Rattle.al_plan.specs.declared.plan.Plan.TheVariants as P
use Rattle.al_plan.specs.Eval.{Env, holds}
use Rattle.al_plan.specs.Allows.{Sets, Allows, keys_cmp}
use Rattle.al_plan.proofs.PlanLaws.{allows_Select, allows_Order, from_Select, from_Order}
use Rattle.al_plan.proofs.Moves.{IsPermutation-filter, IsPermutation-turn, filter_all}
use Rattle.al_plan.proofs.RowLaws.{keys_cmp_total}

-- each element is no lower than the one before it
abbrev pub Up : {X : Type 0} → (X → X → Bool) → List X → Type 0
Up lt [] = Unit {0}
Up lt (x ∷ []) = Unit {0}
Up lt (x ∷ y ∷ ys) = (lt y x ≡ false) × Up lt (y ∷ ys)

up_from_sorted : {X : Type 0} (lt : X → X → Bool) (xs : List X) → IsSortedBy lt xs → Up lt xs
up_from_sorted lt [] h = tt
up_from_sorted lt (x ∷ []) h = tt
up_from_sorted lt (x ∷ y ∷ ys) h = (h zero x (omega arith) (omega arith), up_from_sorted lt (y ∷ ys) (λ k d low high. simp add-one (simp add-one at (h (suc k) d (omega arith) (omega arith)))))

pub sorted_from_up : {X : Type 0} (lt : X → X → Bool) (xs : List X) → Up lt xs → IsSortedBy lt xs
sorted_from_up lt [] h k d low high = absurd (omega arith)
sorted_from_up lt (x ∷ []) h k d low high = absurd (omega arith)
sorted_from_up lt (x ∷ y ∷ ys) h zero d low high = h.0
sorted_from_up lt (x ∷ y ∷ ys) h (suc k) d low high = simp add-one (simp add-one at (sorted_from_up lt (y ∷ ys) h.1 k d (omega arith) (omega arith)))

-- x before the first element that is not lower
abbrev pub placed : {X : Type 0} → (X → X → Bool) → X → List X → List X
placed lt x [] = x ∷ []
placed lt x (y ∷ ys) = cond (lt y x) (y ∷ placed lt x ys) (x ∷ y ∷ ys)

module _ {X : Type 0} (lt : X → X → Bool) (asym : (x y : X) → lt x y ≡ true → lt y x ≡ false) (p : X → Bool) where
  up_after : (b : Bool) (y x z : X) (zs : List X) → lt z x ≡ b → lt y x ≡ true → lt z y ≡ false → Up lt (placed lt x (z ∷ zs)) → Up lt (y ∷ cond b (z ∷ placed lt x zs) (x ∷ z ∷ zs))
  up_after true y x z zs e low h more = (h, subst (λ t. Up lt (cond t (z ∷ placed lt x zs) (x ∷ z ∷ zs))) e more)
  up_after false y x z zs e low h more = (asym y x low, (e, (subst (λ t. Up lt (cond t (z ∷ placed lt x zs) (x ∷ z ∷ zs))) e more).1))

  up_placed : (x : X) (ys : List X) → Up lt ys → Up lt (placed lt x ys)
  up_placed x [] h = tt
  up_placed x (y ∷ ys) h = go (lt y x) refl ys h (up_placed x ys (rest y ys h))
    where
      rest : (y : X) (ys : List X) → Up lt (y ∷ ys) → Up lt ys
      rest y [] h = tt
      rest y (z ∷ zs) h = h.1

      go : (b : Bool) → lt y x ≡ b → (ys : List X) → Up lt (y ∷ ys) → Up lt (placed lt x ys) → Up lt (cond b (y ∷ placed lt x ys) (x ∷ y ∷ ys))
      go false e ys h more = (e, h)
      go true e [] h more = (asym y x e, tt)
      go true e (z ∷ zs) h more = up_after (lt z x) y x z zs refl e h.0 more

  filter-placed : (x : X) (ys : List X) → p x ≡ false → filter p (placed lt x ys) ≡ filter p ys
  filter-placed x [] e = ap (λ b. cond b (x ∷ []) []) e
  filter-placed x (y ∷ ys) e = go (lt y x) (filter-placed x ys e)
    where
      go : (b : Bool) → filter p (placed lt x ys) ≡ filter p ys → filter p (cond b (y ∷ placed lt x ys) (x ∷ y ∷ ys)) ≡ filter p (y ∷ ys)
      go true more = ap (λ zs. cond (p y) (y ∷ zs) zs) more
      go false more = ap (λ b. cond b (x ∷ filter p (y ∷ ys)) (filter p (y ∷ ys))) e

  moved-placed : (x : X) (ys : List X) → IsPermutation (x ∷ ys) (placed lt x ys)
  moved-placed x [] = IsPermutation-refl (x ∷ [])
  moved-placed x (y ∷ ys) = go (lt y x) (moved-placed x ys)
    where
      go : (b : Bool) → IsPermutation (x ∷ ys) (placed lt x ys) → IsPermutation (x ∷ y ∷ ys) (cond b (y ∷ placed lt x ys) (x ∷ y ∷ ys))
      go true more = IsPermutation-trans _ _ _ (IsPermutation-turn x y ys) (IsPermutation-cons y _ _ more)
      go false more = IsPermutation-refl (x ∷ y ∷ ys)

  -- a sorted list takes in others without a change of what the filter keeps
  pub taken_in : (xs ys : List X) → Up lt ys → AllByRecursion (λ x. p x ≡ false) xs → (zs : List X) × IsPermutation (xs ++ ys) zs × Up lt zs × (filter p zs ≡ filter p ys)
  taken_in [] ys h none = (ys, IsPermutation-refl ys, h, refl)
  taken_in (x ∷ xs) ys h none =
      let more = taken_in xs ys h none.1 in
      (placed lt x more.0, IsPermutation-trans _ _ _ (IsPermutation-cons x _ _ more.1) (moved-placed x more.0), up_placed x more.0 more.2, filter-placed x more.0 none.0 ∙ more.3)

not_false : (b : Bool) → not b ≡ true → b ≡ false
not_false true h = sym h
not_false false h = refl

rest_fails : {X : Type 0} (p : X → Bool) (xs : List X) → AllByRecursion (λ x. not (p x) ≡ true) xs → AllByRecursion (λ x. p x ≡ false) xs
rest_fails p [] h = tt
rest_fails p (x ∷ xs) h = (not_false (p x) h.0, rest_fails p xs h.1)

pub one_way : (keys : List OrderKey) (x y : Env) → is_lt (keys_cmp keys x y) ≡ true → is_lt (keys_cmp keys y x) ≡ false
one_way keys x y e = (ranks_by (keys_cmp_total keys) (λ r. r)).one_way x y e

-- a sorted list of what the filter keeps is what it keeps of a sorted list of all
pub sorted_whole : (keys : List OrderKey) (p : Env → Bool) (input kept : List Env) → IsPermutation (filter p input) kept → IsSorted (keys_cmp keys) kept
    → (whole : List Env) × IsPermutation input whole × IsSorted (keys_cmp keys) whole × (kept ≡ filter p whole)
sorted_whole keys p input kept moved sorted =
    let lt = λ (x y : Env). is_lt (keys_cmp keys x y) in
    let others = filter (λ x. not (p x)) input in
    let fails = rest_fails p others (recursion_from_All (λ x. not (p x) ≡ true) others (filter_passes (λ x. not (p x)) input)) in
    let all = taken_in lt (one_way keys) p others kept (up_from_sorted lt kept sorted) fails in
    let passes = filter_all p kept (recursion_from_All (λ x. p x ≡ true) kept (All-permutation (λ x. p x ≡ true) (filter p input) kept moved (filter_passes p input))) in (
      all.0,
      IsPermutation-trans _ _ _ (IsPermutation-filter_both p (λ x. not (p x)) (λ x. refl) input) (IsPermutation-trans _ _ _ (IsPermutation-append_left others _ _ moved) (IsPermutation-trans _ _ _ (IsPermutation-append_comm kept others) all.1)),
      sorted_from_up lt all.0 all.2,
      sym (all.3 ∙ passes),
    )

pub select_order_in : (c : Expr) (keys : List OrderKey) (p : Plan) (b : Bool) (sets : Sets) (given : List Var) (outer rows : List Env) → Allows (P.Select c (P.Order keys p)) b sets given outer rows → Allows (P.Order keys (P.Select c p)) b sets given outer rows
select_order_in c keys p b sets given outer rows h =
    let one = from_Select c (P.Order keys p) b sets given outer rows h in
    let two = from_Order keys p b sets given outer one.0 one.1 in
    allows_Order keys (P.Select c p) b sets given outer rows (
      filter (holds c) two.0,
      allows_Select c p b sets given outer _ (two.0, two.1, refl),
      (
        subst (λ (zs : List Env). IsPermutation (filter (holds c) two.0) zs) (sym one.2) (IsPermutation-filter (holds c) two.0 one.0 two.2.0),
        subst (IsSorted (keys_cmp keys)) (sym one.2) (IsSortedBy-filter (λ x y. is_lt (keys_cmp keys x y)) (ranks_by (keys_cmp_total keys) (λ r. r)) (holds c) one.0 two.2.1),
      ),
    )

pub select_order_out : (c : Expr) (keys : List OrderKey) (p : Plan) (b : Bool) (sets : Sets) (given : List Var) (outer rows : List Env) → Allows (P.Order keys (P.Select c p)) b sets given outer rows → Allows (P.Select c (P.Order keys p)) b sets given outer rows
select_order_out c keys p b sets given outer rows h =
    let one = from_Order keys (P.Select c p) b sets given outer rows h in
    let two = from_Select c p b sets given outer one.0 one.1 in
    let whole = sorted_whole keys (holds c) two.0 rows (subst (λ (zs : List Env). IsPermutation zs rows) two.2 one.2.0) one.2.1 in
    allows_Select c (P.Order keys p) b sets given outer rows (whole.0, allows_Order keys p b sets given outer whole.0 (two.0, two.1, (whole.1, whole.2)), whole.3)
