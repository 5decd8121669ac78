-- The right rows that a left row may meet, by the index of their places.
use Rattle.std.proofs.Common.{◌≡◌, ◌≤◌, ◌-◌, ℕ, zero, suc, Bool, true, false, List, [], ◌∷◌, filter, Some, None, Option, refl, sym, ap, ◌∙◌, arith}
use Rattle.std.specs.Prelude.{slice_get}
use Rattle.hy_frame.specs.Row.{Fields}
use Rattle.hy_job.proofs.Members.{by_cases}
use Rattle.hy_join.specs.Keys.{IsIndex, found_at, is_under, partners, places_from}

none_some : {X : Type 0} (x : X) → None ≡ Some x → ⊥
none_some x e = cc

some_one : {X : Type 0} (x y : X) → Some x ≡ Some y → x ≡ y
some_one x y e = cc

module _ (test : Fields → Bool) where
  first_place : (n : ℕ) (row : Fields) (rows : List Fields) → test row ≡ true → places_from test n (row ∷ rows) ≡ n ∷ places_from test (suc n) rows
  first_place n row rows t = rw t refl

  no_first_place : (n : ℕ) (row : Fields) (rows : List Fields) → test row ≡ false → places_from test n (row ∷ rows) ≡ places_from test (suc n) rows
  no_first_place n row rows f = rw f refl

  first_row : (row : Fields) (rows : List Fields) → test row ≡ true → filter test (row ∷ rows) ≡ row ∷ filter test rows
  first_row row rows t = rw t refl

  no_first_row : (row : Fields) (rows : List Fields) → test row ≡ false → filter test (row ∷ rows) ≡ filter test rows
  no_first_row row rows f = rw f refl

  none_behind : (n : ℕ) (row : Fields) (places : List ℕ) (rows : List Fields) → ((i : ℕ) → slice_get places i ≡ None → slice_get rows i ≡ None) → (i : ℕ) → slice_get (n ∷ places) i ≡ None → slice_get (row ∷ rows) i ≡ None
  none_behind n row places rows more zero e = absurd (none_some n (sym e))
  none_behind n row places rows more (suc i) e = more i e

  -- as many places as rows that pass
  no_place : (n : ℕ) (rows : List Fields) (i : ℕ) → slice_get (places_from test n rows) i ≡ None → slice_get (filter test rows) i ≡ None
  no_place n [] i e = refl
  no_place n (row ∷ rows) i e =
      by_cases (test row)
      (λ t. ap (λ (fs : List Fields). slice_get fs i) (first_row row rows t)
      ∙ none_behind n row (places_from test (suc n) rows) (filter test rows) (no_place (suc n) rows) i (ap (λ (places : List ℕ). slice_get places i) (sym (first_place n row rows t)) ∙ e))
      (λ f. ap (λ (fs : List Fields). slice_get fs i) (no_first_row row rows f) ∙ no_place (suc n) rows i (ap (λ (places : List ℕ). slice_get places i) (sym (no_first_place n row rows f)) ∙ e))

  -- it stands behind another row
  one_behind : (n at : ℕ) (row : Fields) (rows : List Fields) (found : Option Fields) → (suc n ≤ at) × (found ≡ slice_get rows (at - suc n)) → (n ≤ at) × (found ≡ slice_get (row ∷ rows) (at - n))
  one_behind n at row rows found h =
      let low : suc n ≤ at = h.0 in
      let one : suc (at - suc n) ≡ at - n = omega (arith, low) in
      (omega (arith, low), h.1 ∙ ap (slice_get (row ∷ rows)) one)

  one_here : (n at : ℕ) (row : Fields) (rows kept : List Fields) (places : List ℕ) → ((i : ℕ) → slice_get places i ≡ Some at → (suc n ≤ at) × (slice_get kept i ≡ slice_get rows (at - suc n))) → (i : ℕ) → slice_get (n ∷ places) i ≡ Some at
      → (n ≤ at) × (slice_get (row ∷ kept) i ≡ slice_get (row ∷ rows) (at - n))
  one_here n at row rows kept places more zero e =
      let same : n ≡ at = some_one n at e in
      let none : 0 ≡ at - n = omega (arith, same) in
      (omega (arith, same), ap (slice_get (row ∷ rows)) none)
  one_here n at row rows kept places more (suc i) e = one_behind n at row rows (slice_get kept i) (more i e)

  -- the row at a place is the one that passes
  row_at : (n : ℕ) (rows : List Fields) (i at : ℕ) → slice_get (places_from test n rows) i ≡ Some at → (n ≤ at) × (slice_get (filter test rows) i ≡ slice_get rows (at - n))
  row_at n [] i at e = absurd (none_some at e)
  row_at n (row ∷ rows) i at e =
      by_cases (test row)
      (λ t. let h = one_here n at row rows (filter test rows) (places_from test (suc n) rows) (λ k. row_at (suc n) rows k at) i (ap (λ (places : List ℕ). slice_get places i) (sym (first_place n row rows t)) ∙ e) in
      (h.0, ap (λ (fs : List Fields). slice_get fs i) (first_row row rows t) ∙ h.1))
      (λ f. let h = one_behind n at row rows (slice_get (filter test rows) i) (row_at (suc n) rows i at (ap (λ (places : List ℕ). slice_get places i) (sym (no_first_place n row rows f)) ∙ e)) in
      (h.0, ap (λ (fs : List Fields). slice_get fs i) (no_first_row row rows f) ∙ h.1))

module _ (columns : List ℕ) (rows : List Fields) where
  pub all_rows : (indexed : Bool) (hash : Option ℕ) (place : ℕ) (found : Option Fields) → indexed ≡ false → found ≡ slice_get rows place → found ≡ slice_get (partners indexed columns hash rows) place
  all_rows true hash place found no_index is = absurd (cc)
  all_rows false hash place found no_index is = is

  pub no_rows : (indexed : Bool) (hash : Option ℕ) (place : ℕ) → indexed ≡ true → hash ≡ None → None ≡ slice_get (partners indexed columns hash rows) place
  no_rows false hash place indexed none = absurd (cc)
  no_rows true None place indexed none = refl
  no_rows true (Some hash) place indexed none = absurd (none_some hash (sym none))

  pub none_there : (indexed : Bool) (hash : Option ℕ) (own place : ℕ) (get : ℕ → Option (List ℕ)) → indexed ≡ true → hash ≡ Some own → IsIndex columns rows get → None ≡ slice_get (found_at (get own)) place
      → None ≡ slice_get (partners indexed columns hash rows) place
  none_there false hash own place get indexed some index gone = absurd (cc)
  none_there true None own place get indexed some index gone = absurd (none_some own some)
  none_there true (Some h) own place get indexed some index gone =
      let same = some_one h own some in
      sym (no_place (is_under columns h) 0 rows place (sym (gone ∙ ap (λ (places : List ℕ). slice_get places place) (index own ∙ ap (λ g. places_from (is_under columns g) 0 rows) (sym same)))))

  pub one_there : (indexed : Bool) (hash : Option ℕ) (own place at : ℕ) (get : ℕ → Option (List ℕ)) (found : Option Fields) → indexed ≡ true → hash ≡ Some own → IsIndex columns rows get → Some at ≡ slice_get (found_at (get own)) place
      → found ≡ slice_get rows at → found ≡ slice_get (partners indexed columns hash rows) place
  one_there false hash own place at get found indexed some index there is = absurd (cc)
  one_there true None own place at get found indexed some index there is = absurd (none_some own some)
  one_there true (Some h) own place at get found indexed some index there is =
      let same = some_one h own some in
      let placed = row_at (is_under columns h) 0 rows place at (sym (there ∙ ap (λ (places : List ℕ). slice_get places place) (index own ∙ ap (λ g. places_from (is_under columns g) 0 rows) (sym same)))) in
      let as_it_is : at ≡ at - 0 = omega arith in
      is ∙ ap (slice_get rows) as_it_is ∙ sym placed.1

pub ruleset right_laws = (all_rows, no_rows, none_there, one_there)
