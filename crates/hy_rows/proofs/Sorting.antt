-- Each list has an order that is sorted.
use Rattle.std.proofs.Common.{◌≡◌, ◌<◌, zero, suc, ◌+◌, Bool, true, false, cond, List, [], ◌∷◌, map, length, get_or, refl, sym, subst, arith, add-one}
use Rattle.std.specs.Cmp.{IsTotalOrder}
use Rattle.std.specs.List.Sorted.{IsPermutation, IsSorted, IsSortedBy}
use Rattle.std.specs.Ordering.{is_lt, ordering_reverse}
use Rattle.std.specs.declared.cmp.Ordering.{Ordering}
use Rattle.std.specs.declared.cmp.Ordering.TheVariants.{Less, Equal, Greater}
use Rattle.std.proofs.lemmas.List.{get_or-map, length-map}
use Rattle.std.proofs.lemmas.List.Sorted.{IsPermutation-refl, IsPermutation-trans, IsPermutation-cons}
use Rattle.hy_job.proofs.FreeLaws.{IsPermutation-turn}

-- each element is no lower than the one before it
abbrev Up : {X : Type 0} → (X → X → Bool) → List X → Type 0
Up lt [] = Unit {0}
Up lt (x ∷ []) = Unit {0}
Up lt (x ∷ y ∷ ys) = (lt y x ≡ false) × Up lt (y ∷ ys)

sorted_from_up : {X : Type 0} (lt : X → X → Bool) (xs : List X) → Up lt xs → IsSortedBy lt xs
sorted_from_up lt [] h k d low high = absurd (omega arith)
sorted_from_up lt (x ∷ []) h k d low high = absurd (omega arith)
sorted_from_up lt (x ∷ y ∷ ys) h zero d low high = h.0
sorted_from_up lt (x ∷ y ∷ ys) h (suc k) d low high = simp add-one (simp add-one at (sorted_from_up lt (y ∷ ys) h.1 k d (omega arith) (omega arith)))

-- x before the first element that is not lower
abbrev placed : {X : Type 0} → (X → X → Bool) → X → List X → List X
placed lt x [] = x ∷ []
placed lt x (y ∷ ys) = cond (lt y x) (y ∷ placed lt x ys) (x ∷ y ∷ ys)

abbrev ordered : {X : Type 0} → (X → X → Bool) → List X → List X
ordered lt [] = []
ordered lt (x ∷ xs) = placed lt x (ordered lt xs)

module _ {X : Type 0} (lt : X → X → Bool) where
  moved_at : (b : Bool) (x y : X) (ys : List X) → IsPermutation (x ∷ ys) (placed lt x ys) → IsPermutation (x ∷ y ∷ ys) (cond b (y ∷ placed lt x ys) (x ∷ y ∷ ys))
  moved_at true x y ys moved = IsPermutation-trans (x ∷ y ∷ ys) (y ∷ x ∷ ys) (y ∷ placed lt x ys) (IsPermutation-turn x y ys) (IsPermutation-cons y (x ∷ ys) (placed lt x ys) moved)
  moved_at false x y ys moved = IsPermutation-refl (x ∷ y ∷ ys)

  moved_placed : (x : X) (ys : List X) → IsPermutation (x ∷ ys) (placed lt x ys)
  moved_placed x [] = IsPermutation-refl (x ∷ [])
  moved_placed x (y ∷ ys) = moved_at (lt y x) x y ys (moved_placed x ys)

  moved_ordered : (xs : List X) → IsPermutation xs (ordered lt xs)
  moved_ordered [] = IsPermutation-refl []
  moved_ordered (x ∷ xs) = IsPermutation-trans (x ∷ xs) (x ∷ ordered lt xs) (placed lt x (ordered lt xs)) (IsPermutation-cons x xs (ordered lt xs) (moved_ordered xs)) (moved_placed x (ordered lt xs))

  module _ (asym : (x y : X) → lt x y ≡ true → lt y x ≡ false) where
    up_after : (b : Bool) (y x z : X) (zs : List X) → lt z x ≡ b → lt y x ≡ true → lt z y ≡ false → Up lt (placed lt x (z ∷ zs)) → Up lt (y ∷ cond b (z ∷ placed lt x zs) (x ∷ z ∷ zs))
    up_after true y x z zs e low h more = (h, subst (λ t. Up lt (cond t (z ∷ placed lt x zs) (x ∷ z ∷ zs))) e more)
    up_after false y x z zs e low h more = (asym y x low, (e, (subst (λ t. Up lt (cond t (z ∷ placed lt x zs) (x ∷ z ∷ zs))) e more).1))

    up_placed : (x : X) (ys : List X) → Up lt ys → Up lt (placed lt x ys)
    up_placed x [] h = tt
    up_placed x (y ∷ ys) h = go (lt y x) refl ys h (up_placed x ys (rest y ys h))
      where
        rest : (y : X) (ys : List X) → Up lt (y ∷ ys) → Up lt ys
        rest y [] h = tt
        rest y (z ∷ zs) h = h.1

        go : (b : Bool) → lt y x ≡ b → (ys : List X) → Up lt (y ∷ ys) → Up lt (placed lt x ys) → Up lt (cond b (y ∷ placed lt x ys) (x ∷ y ∷ ys))
        go false e ys h more = (e, h)
        go true e [] h more = (asym y x e, tt)
        go true e (z ∷ zs) h more = up_after (lt z x) y x z zs refl e h.0 more

    up_ordered : (xs : List X) → Up lt (ordered lt xs)
    up_ordered [] = tt
    up_ordered (x ∷ xs) = up_placed x (ordered lt xs) (up_ordered xs)

not_both : (o : Ordering) → is_lt o ≡ true → is_lt (ordering_reverse o) ≡ false
not_both Less e = refl
not_both Equal e = refl
not_both Greater e = cc

abbrev below : {X : Type 0} → (X → X → Ordering) → X → X → Bool
below R x y = is_lt (R x y)

below_once : {X : Type 0} (R : X → X → Ordering) → IsTotalOrder R → (x y : X) → below R x y ≡ true → below R y x ≡ false
below_once R total x y e = subst (λ o. is_lt o ≡ false) (sym (total.antisymm y x)) (not_both (R x y) e)

pub some_order : {X : Type 0} (R : X → X → Ordering) → IsTotalOrder R → (xs : List X) → (ys : List X) × IsPermutation xs ys × IsSorted R ys
some_order R total xs = (ordered (below R) xs, moved_ordered (below R) xs, sorted_from_up (below R) (ordered (below R) xs) (up_ordered (below R) (below_once R total) xs))

-- what is sorted by a key has sorted keys
pub sorted_keys : {X K : Type 0} (key : X → K) (R : K → K → Ordering) (xs : List X) (none : X) → IsSortedBy (λ x y. is_lt (R (key x) (key y))) xs → IsSorted R (map key xs)
sorted_keys key R xs none sorted k d low high =
    let long : length (map key xs) ≡ length xs = length-map xs key in
    let here : k < length xs = omega (arith, long, high) in
    let next : k + 1 < length xs = omega (arith, long, high) in
    let at_here = get_or-map key xs k none d here in
    let at_next = get_or-map key xs (k + 1) none d next in
    subst (λ x. is_lt (R (get_or (map key xs) (k + 1) d) x) ≡ false) (sym at_here)
    (subst (λ x. is_lt (R x (key (get_or xs k none))) ≡ false) (sym at_next) (sorted k none low next))
