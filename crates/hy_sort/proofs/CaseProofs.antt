-- The worked cases.
use Rattle.std.proofs.Common.{◌≡◌, ◌⊎◌, ℕ, zero, suc, pos, true, false, true≢false, List, [], ◌∷◌, ◌++◌, map, length, refl, sym, ap, subst, ◌∙◌, inl, inr, arith}
use Rattle.std.specs.Prelude.{FitsSigned}
use Rattle.std.specs.Int.{w64}
use Rattle.std.proofs.lemmas.Int.{ints}
use Rattle.std.specs.List.{Contains}
use Rattle.std.specs.List.Sorted.{IsPermutation, IsSorted}
use Rattle.std.proofs.lemmas.List.Elements.{All-contains, All-from_recursion}
use Rattle.std.proofs.lemmas.List.Sorted.{All-permutation, Contains-permutation, IsPermutation-refl, length_permutation}
use Rattle.al_value.specs.declared.value.Value.TheVariants as V
use Rattle.hy_frame.specs.Row.{IsRow}
use Rattle.hy_store.specs.Fields.{fields_of}
use Rattle.hy_store.proofs.FieldLaws.{rows_are_values}
use Rattle.hy_driver.specs.Rows.{Row, values_of}
use Rattle.hy_driver.specs.Steps.{Gives}
use Rattle.hy_driver.specs.declared.phase.Phase.TheVariants.{Working, Hungry, Ended, GivenUp}
use Rattle.hy_driver.proofs.Values.{values_again}
use Rattle.hy_job.specs.Cases.{row_of}
use Rattle.hy_job.specs.Columns.{keys_cmp}
use Rattle.hy_job.proofs.FreeLaws.{IsPermutation-turn}
use Rattle.hy_sort.specs.Cases.{EndsBehindTheLast, GivesTheNext, KeysHaveDirections, NoneIsLeftOut, OrderingIsWork, TiesAreFree, by_first, fields_at, narrow, one_and_two}
use Rattle.hy_sort.specs.Emit.{emit_out, emit_state}
use Rattle.hy_sort.proofs.Emitting.{emit_ends, emit_gives, emit_sorts}

-- ---- two rows

two_orders : (x y : Row) (rows : List Row) → IsPermutation (x ∷ y ∷ []) rows → (rows ≡ x ∷ y ∷ []) ⊎ (rows ≡ y ∷ x ∷ [])
two_orders x y [] h = absurd (omega (arith, length_permutation _ _ h))
two_orders x y (p ∷ []) h = absurd (omega (arith, length_permutation _ _ h))
two_orders x y (p ∷ q ∷ r ∷ rows) h = absurd (omega (arith, length_permutation _ _ h))
two_orders x y (p ∷ q ∷ []) h =
    let either = All-permutation Either (x ∷ y ∷ []) (p ∷ q ∷ []) h (All-from_recursion Either (x ∷ y ∷ []) (inl refl, (inr refl, tt))) in
    by_cases (either 0 x (omega arith)) (either 1 x (omega arith))
  where
    Either : Row → Type 0
    Either r = (r ≡ x) ⊎ (r ≡ y)

    again : (z w : Row) → p ≡ z → q ≡ z → Contains (p ∷ q ∷ []) w → w ≡ z
    again z w e f at = All-contains (λ (r : Row). r ≡ z) (p ∷ q ∷ []) w (All-from_recursion (λ (r : Row). r ≡ z) (p ∷ q ∷ []) (e, (f, tt))) at

    by_cases : Either p → Either q → (p ∷ q ∷ [] ≡ x ∷ y ∷ []) ⊎ (p ∷ q ∷ [] ≡ y ∷ x ∷ [])
    by_cases (inl e) (inr f) = inl (λ i. e i ∷ f i ∷ [])
    by_cases (inr e) (inl f) = inr (λ i. e i ∷ f i ∷ [])
    by_cases (inl e) (inl f) = inl (λ i. e i ∷ (f ∙ sym (again x y e f (Contains-permutation _ _ y h (1, omega arith, refl)))) i ∷ [])
    by_cases (inr e) (inr f) = inl (λ i. (e ∙ sym (again y x e f (Contains-permutation _ _ x h (0, omega arith, refl)))) i ∷ f i ∷ [])

up : IsSorted (keys_cmp (by_first false)) one_and_two
up zero d low high = refl
up (suc k) d low high = absurd (omega (arith, high))

down : IsSorted (keys_cmp (by_first true)) (row_of 2 ∷ row_of 1 ∷ [])
down zero d low high = refl
down (suc k) d low high = absurd (omega (arith, high))

not_up : IsSorted (keys_cmp (by_first false)) (row_of 2 ∷ row_of 1 ∷ []) → ⊥
not_up h = true≢false (h 0 [] (omega arith) (omega arith))

not_down : IsSorted (keys_cmp (by_first true)) one_and_two → ⊥
not_down h = true≢false (h 0 [] (omega arith) (omega arith))

-- ---- what is kept

pub none_is_left_out : NoneIsLeftOut
none_is_left_out = (
  IsPermutation-refl one_and_two,
  IsPermutation-turn (row_of 1) (row_of 2) [],
  λ h. omega (arith, length_permutation one_and_two (row_of 1 ∷ []) h),
  refl,
  λ e. omega (arith, ap first e),
)
  where
    first : List Row → ℕ
    first ((V.Int (pos n) ∷ row) ∷ rows) = n
    first _ = 0

-- ---- what is given

pub keys_have_directions : KeysHaveDirections
keys_have_directions out = (
  (λ h. down_only (two_orders (row_of 1) (row_of 2) out h.0) h.1, λ e. subst (λ o. emit_out (by_first true) one_and_two [] o) (sym e) (IsPermutation-turn (row_of 1) (row_of 2) [], down)),
  (λ h. up_only (two_orders (row_of 1) (row_of 2) out h.0) h.1, λ e. subst (λ o. emit_out (by_first false) one_and_two [] o) (sym e) (IsPermutation-refl one_and_two, up)),
)
  where
    down_only : (out ≡ one_and_two) ⊎ (out ≡ row_of 2 ∷ row_of 1 ∷ []) → IsSorted (keys_cmp (by_first true)) out → out ≡ row_of 2 ∷ row_of 1 ∷ []
    down_only (inl e) sorted = absurd (not_down (subst (IsSorted (keys_cmp (by_first true))) e sorted))
    down_only (inr e) sorted = e

    up_only : (out ≡ one_and_two) ⊎ (out ≡ row_of 2 ∷ row_of 1 ∷ []) → IsSorted (keys_cmp (by_first false)) out → out ≡ one_and_two
    up_only (inl e) sorted = e
    up_only (inr e) sorted = absurd (not_up (subst (IsSorted (keys_cmp (by_first false))) e sorted))

pub ties_are_free : TiesAreFree
ties_are_free = ((IsPermutation-refl _, tied), (IsPermutation-turn (row_of 1 ++ row_of 5) (row_of 1 ++ row_of 4) [], tied'))
  where
    tied : IsSorted (keys_cmp (by_first false)) ((row_of 1 ++ row_of 5) ∷ (row_of 1 ++ row_of 4) ∷ [])
    tied zero d low high = refl
    tied (suc k) d low high = absurd (omega (arith, high))

    tied' : IsSorted (keys_cmp (by_first false)) ((row_of 1 ++ row_of 4) ∷ (row_of 1 ++ row_of 5) ∷ [])
    tied' zero d low high = refl
    tied' (suc k) d low high = absurd (omega (arith, high))

-- ---- turns

fits_one : FitsSigned w64 (pos 1)
fits_one = omega (arith, ints)

fits_two : FitsSigned w64 (pos 2)
fits_two = omega (arith, ints)

ones : values_of (fields_at 1) ≡ row_of 1
ones = values_again (row_of 1) (fits_one, tt)

twos : values_of (fields_at 2) ≡ row_of 2
twos = values_again (row_of 2) (fits_two, tt)

fed : Working ≡ Hungry → ⊥
fed e = cc

live : Working ≡ GivenUp → ⊥
live e = cc

over : {P : Type 0} → Working ≡ Ended → P
over e = absurd (no e)
  where
    no : Working ≡ Ended → ⊥
    no e = cc

pub ordering_is_work : OrderingIsWork
unfolding values_of
ordering_is_work out = (
  emit_sorts narrow refl (by_first false) (fields_at 2 ∷ fields_at 1 ∷ []) (fields_at 1 ∷ fields_at 2 ∷ []) out false 0 true Working refl refl refl (IsPermutation-turn (fields_at 2) (fields_at 1) [])
      (subst (IsSorted (keys_cmp (by_first false))) (λ i. sym ones i ∷ sym twos i ∷ []) up),
  λ h.
      let put = ((h.2.rest tt).back [] (map values_of (fields_at 2 ∷ fields_at 1 ∷ [])) (tt, record { rest = []; output = (IsPermutation-refl [], none_sorted); is = refl })).1 in
      not_up (subst (IsSorted (keys_cmp (by_first false))) (sym put.is ∙ (λ i. twos i ∷ ones i ∷ [])) put.output.1),
)
  where
    none_sorted : IsSorted (keys_cmp (by_first false)) []
    none_sorted k d low high = absurd (omega (arith, high))

same : (row other : Row) → row ∷ [] ≡ other ∷ [] → row ≡ other
same row other e = cc

none_of : (row : Row) → [] ≡ row ∷ [] → ⊥
none_of row e = cc

nothing : (xs : List Row) → IsPermutation [] xs → xs ≡ []
nothing [] moved = refl
nothing (x ∷ xs) moved = absurd (omega (arith, length_permutation [] (x ∷ xs) moved))

empty_sorted : IsSorted (keys_cmp (by_first false)) []
empty_sorted k d low high = absurd (omega (arith, high))

pub gives_the_next : GivesTheNext
gives_the_next out = (
  told,
  λ e. (emit_gives narrow refl (by_first false) (fields_at 1 ∷ fields_at 2 ∷ []) (fields_at 2) out true 1 true Working refl (omega arith) refl refl is_row
      (All-from_recursion (λ r. length r ≡ 1) (fields_at 1 ∷ fields_at 2 ∷ []) (refl, (refl, tt))) (sym e)).2,
)
  where
    is_row : IsRow (length (fields_at 2)) (fields_at 2)
    is_row = (rows_are_values 1 (fields_at 2)).1 (row_of 2, refl, (fits_two, tt), refl)

    told : Gives (emit_state narrow (by_first false) (fields_at 1 ∷ fields_at 2 ∷ []) true 1 true Working) out (emit_state narrow (by_first false) (fields_at 1 ∷ fields_at 2 ∷ []) true 2 true Working) → out ≡ fields_at 2
    told g =
        let put = ((g.4.rest tt).back [] [] (tt, record { rest = []; output = (IsPermutation-refl [], empty_sorted); is = refl })).1 in
        let is = same g.0 (values_of (fields_at 2)) (put.is ∙ ap (λ r. values_of (fields_at 2) ∷ r) (nothing put.rest put.output.0)) in
        sym g.3 ∙ ap fields_of (is ∙ twos)

pub ends_behind_the_last : EndsBehindTheLast
ends_behind_the_last out = (
  emit_ends narrow refl (by_first false) (fields_at 1 ∷ []) out true 1 true Working refl (omega arith) refl live,
  λ h. let put = (h.6 tt).finished.some.1 in none_of (values_of (fields_at 1)) (put.is ∙ ap (λ r. values_of (fields_at 1) ∷ r) (nothing put.rest put.output.0)),
)
