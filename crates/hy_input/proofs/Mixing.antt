-- Lists have an interleaving that is in order where they are.
use Rattle.std.proofs.Common.{◌≡◌, inl, inr, ◌+◌, ℕ, zero, suc, true, false, List, [], ◌∷◌, ◌++◌, flat_map, refl, ap, sym, subst, ◌∙◌, arith, append-nil}
use Rattle.std.specs.Prelude.{slice_index_or}
use Rattle.std.specs.List.{All, AllByRecursion}
use Rattle.std.specs.List.Sorted.{IsSorted}
use Rattle.std.specs.Cmp.{IsTotalOrder}
use Rattle.std.specs.declared.cmp.Ordering.{Ordering}
use Rattle.std.specs.declared.cmp.Ordering.TheVariants.{Less, Equal, Greater}
use Rattle.std.specs.Ordering.{is_lt, ordering_reverse}
use Rattle.std.proofs.lemmas.List.Elements.{All-from_recursion, recursion_from_All}
use Rattle.hy_job.proofs.Members.{by_cases, no_bool}
use Rattle.hy_job.specs.Columns.{Takes, Interleaves}

none_left : (X : Type 0) → Interleaves {A = X} [] []
unfolding Interleaves
none_left X = λ k d lt. absurd (omega (arith, lt))

module _ {X : Type 0} where
  -- a list without items adds nothing
  beside_none : (xss : List (List X)) (zs : List X) → Interleaves xss zs → Interleaves ([] ∷ xss) zs
  unfolding Interleaves Takes
  beside_none xss [] h = All-from_recursion (λ xs. xs ≡ []) ([] ∷ xss) (refl, recursion_from_All (λ xs. xs ≡ []) xss h)
  beside_none xss (z ∷ zs) h = ([] ∷ h.0, inr (h.0, h.1, refl), beside_none h.0 zs h.2)

  before_all : (xs : List X) (xss : List (List X)) (zs : List X) → Interleaves xss zs → Interleaves (xs ∷ xss) (xs ++ zs)
  unfolding Interleaves Takes
  before_all [] xss zs h = beside_none xss zs h
  before_all (x ∷ xs) xss zs h = (xs ∷ xss, inl (xs, refl, refl), before_all xs xss zs h)

  -- one list after the other
  pub in_turn : (xss : List (List X)) → Interleaves xss (flat_map (λ (xs : List X). xs) xss)
  in_turn [] = none_left X
  in_turn (xs ∷ xss) = before_all xs xss (flat_map (λ (ys : List X). ys) xss) (in_turn xss)

  -- an interleaving of a list and an interleaving of others is one of all
  within_all : (xs ys : List X) (xss : List (List X)) (zs : List X) → Interleaves (xs ∷ ys ∷ []) zs → Interleaves xss ys → Interleaves (xs ∷ xss) zs
  unfolding Interleaves Takes
  within_all xs ys xss [] h g =
      let both = recursion_from_All (λ (us : List X). us ≡ []) (xs ∷ ys ∷ []) h in
      All-from_recursion (λ us. us ≡ []) (xs ∷ xss) (both.0, recursion_from_All (λ us. us ≡ []) xss (subst (Interleaves xss) both.1.0 g))
  within_all xs ys xss (z ∷ zs) h g = elim h.1 [
    | inl here ↦ (here.0 ∷ xss, inl (here.0, here.1, refl), within_all here.0 ys xss zs (subst (λ (rest : List (List X)). Interleaves rest zs) here.2 h.2) g)
    | inr there ↦ elim there.1 [
      | inl own ↦ (
          let next : (rest : List (List X)) × Takes xss z rest × Interleaves rest own.0 = subst (Interleaves xss) own.1 g in
          (xs ∷ next.0, inr (next.0, next.1, refl), within_all xs own.0 next.0 zs (subst (λ (rest : List (List X)). Interleaves rest zs) (there.2 ∙ ap (λ (us : List (List X)). xs ∷ us) own.2) h.2) next.2))
      | inr none ↦ absurd none.1
    ]
  ]

-- ---- in order

module _ {X : Type 0} (cmp : X → X → Ordering) where
  -- the first item is not below this one
  abbrev Fits : X → List X → Type 0
  Fits b [] = Unit {0}
  Fits b (x ∷ xs) = is_lt (cmp x b) ≡ false

  abbrev Ascends : List X → Type 0
  Ascends [] = Unit {0}
  Ascends (x ∷ xs) = Fits x xs × Ascends xs

  further : (k : ℕ) → suc k + 1 ≡ suc (k + 1)
  further k = omega arith

  ascends : (xs : List X) → IsSorted cmp xs → Ascends xs
  ascends [] h = tt
  ascends (x ∷ xs) h = (next xs h, ascends xs (λ k d low high. subst (λ (i : ℕ). is_lt (cmp (slice_index_or (x ∷ xs) i d) (slice_index_or xs k d)) ≡ false) (further k) (h (suc k) d (omega arith) (omega (arith, high)))))
    where
      next : (ys : List X) → IsSorted cmp (x ∷ ys) → Fits x ys
      next [] g = tt
      next (y ∷ ys) g = g 0 x (omega arith) (omega arith)

  sorted_up : (xs : List X) → Ascends xs → IsSorted cmp xs
  sorted_up [] h k d low high = absurd (omega (arith, high))
  sorted_up (x ∷ []) h k d low high = absurd (omega (arith, high))
  sorted_up (x ∷ y ∷ xs) h zero d low high = h.0
  sorted_up (x ∷ y ∷ xs) h (suc k) d low high = subst (λ (i : ℕ). is_lt (cmp (slice_index_or (x ∷ y ∷ xs) i d) (slice_index_or (y ∷ xs) k d)) ≡ false) (sym (further k)) (sorted_up (y ∷ xs) h.1 k d (omega arith) (omega (arith, high)))

  record Merged (xs ys : List X) : Type 0 where
    zs : List X
    mixed : Interleaves (xs ∷ ys ∷ []) zs
    up : Ascends xs → Ascends ys → Ascends zs
    low : (b : X) → Fits b xs → Fits b ys → Fits b zs

  module _ (total : IsTotalOrder cmp) where
    not_back : (x y : X) → is_lt (cmp y x) ≡ true → is_lt (cmp x y) ≡ false
    not_back x y e = ap is_lt (total.antisymm x y) ∙ turned (cmp y x) e
      where
        turned : (o : Ordering) → is_lt o ≡ true → is_lt (ordering_reverse o) ≡ false
        turned Less t = refl
        turned Equal t = absurd (no_bool (sym t))
        turned Greater t = absurd (no_bool (sym t))

    right_first : (x y : X) (xs ys : List X) → is_lt (cmp y x) ≡ true → Merged (x ∷ xs) ys → Merged (x ∷ xs) (y ∷ ys)
    unfolding Interleaves Takes
    right_first x y xs ys t m = record {
      zs = y ∷ m.zs;
      mixed = ((x ∷ xs) ∷ ys ∷ [], inr (ys ∷ [], inl (ys, refl, refl), refl), m.mixed);
      up = λ a b. (m.low y (not_back x y t) b.0, m.up a b.1);
      low = λ b f g. g;
    }

    left_first : (x y : X) (xs ys : List X) → is_lt (cmp y x) ≡ false → Merged xs (y ∷ ys) → Merged (x ∷ xs) (y ∷ ys)
    unfolding Interleaves Takes
    left_first x y xs ys f m = record {
      zs = x ∷ m.zs;
      mixed = (xs ∷ (y ∷ ys) ∷ [], inl (xs, refl, refl), m.mixed);
      up = λ a b. (m.low x a.0 f, m.up a.1 b);
      low = λ b g h. g;
    }

    merge_from : (x : X) (xs : List X) → ((ys : List X) → Merged xs ys) → (ys : List X) → Merged (x ∷ xs) ys
    merge_from x xs ih [] =
        record {
          zs = x ∷ xs;
          mixed = subst (Interleaves ((x ∷ xs) ∷ [] ∷ [])) (append-nil (x ∷ xs)) (before_all (x ∷ xs) ([] ∷ []) [] (beside_none [] [] (none_left X)));
          up = λ a b. a;
          low = λ b f g. f;
        }
    merge_from x xs ih (y ∷ ys) = by_cases (is_lt (cmp y x)) (λ t. right_first x y xs ys t (merge_from x xs ih ys)) (λ f. left_first x y xs ys f (ih (y ∷ ys)))

    merge_two : (xs ys : List X) → Merged xs ys
    merge_two [] ys = record {
      zs = ys;
      mixed = beside_none (ys ∷ []) ys (subst (Interleaves (ys ∷ [])) (append-nil ys) (in_turn (ys ∷ [])));
      up = λ a b. b;
      low = λ b f g. g;
    }
    merge_two (x ∷ xs) ys = merge_from x xs (merge_two xs) ys

    merge_all : (xss : List (List X)) → (zs : List X) × Interleaves xss zs × (AllByRecursion Ascends xss → Ascends zs)
    merge_all [] = ([], none_left X, λ h. tt)
    merge_all (xs ∷ xss) =
        let rest = merge_all xss in
        let m = merge_two xs rest.0 in
        (m.zs, within_all xs rest.0 xss m.zs m.mixed rest.1, λ h. m.up h.0 (rest.2 h.1))

    -- lists have an interleaving that is in order where they are
    pub merged : (xss : List (List X)) → (zs : List X) × Interleaves xss zs × (All (IsSorted cmp) xss → IsSorted cmp zs)
    merged xss = let m = merge_all xss in (m.0, m.1, λ h. sorted_up m.0 (m.2 (each xss (recursion_from_All (IsSorted cmp) xss h))))
      where
        each : (yss : List (List X)) → AllByRecursion (IsSorted cmp) yss → AllByRecursion Ascends yss
        each [] h = tt
        each (ys ∷ yss) h = (ascends ys h.0, each yss h.1)
