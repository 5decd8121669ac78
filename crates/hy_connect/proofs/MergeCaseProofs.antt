-- Worked cases of merging takers.
use Rattle.std.proofs.Common.{◌≡◌, ◌<◌, inl, inr, ℕ, zero, suc, Bool, false, true≢false, List, [], ◌∷◌, refl, sym, ap, subst, ◌∙◌, arith}
use Rattle.std.specs.List.Sorted.{IsSorted}
use Rattle.std.proofs.lemmas.List.Elements.{All-from_recursion}
use Rattle.al_value.specs.declared.value.Value.TheVariants as V
use Rattle.hy_frame.specs.Row.{Fields}
use Rattle.hy_job.specs.Columns.{Interleaves, Takes, keys_cmp}
use Rattle.hy_driver.specs.Rows.{Row, values_of}
use Rattle.hy_connect.specs.Cases.{false_row, true_row}
use Rattle.hy_connect.specs.Sources.{Lacks, NoneLacks, source_at}
use Rattle.hy_connect.specs.MergeCases.{FirstBareIsWanted, HandComesFirst, LesserIsFirst, OpenOnesSend, by_first, has_closed, sends_true}

-- ---- who is wanted

has_row : Lacks (sends_true 0) → ⊥
has_row l = no _ _ l.none
  where
    no : (x : Fields) (xs : List Fields) → x ∷ xs ≡ [] → ⊥
    no x xs e = cc

bare_lacks : Lacks (sends_true 1)
bare_lacks = record { going = refl; none = refl }

none_before : (j : ℕ) → j < 1 → Lacks (source_at (sends_true 0 ∷ sends_true 1 ∷ sends_true 1 ∷ []) j) → ⊥
none_before zero low l = has_row l
none_before (suc j) low l = omega (arith, low)

none_lacks : NoneLacks (sends_true 0 ∷ has_closed ∷ [])
none_lacks zero low l = has_row l
none_lacks (suc zero) low l = true≢false l.going
none_lacks (suc (suc s)) low l = omega (arith, low)

pub first_bare_is_wanted : FirstBareIsWanted
first_bare_is_wanted = (
  record { there = omega arith; lacks = bare_lacks; first = none_before },
  (λ w. has_row w.lacks),
  (λ w. w.first 0 (omega arith) bare_lacks),
  none_lacks,
)

-- ---- merges

one_sorted : (row : Row) → IsSorted (keys_cmp by_first) (row ∷ [])
one_sorted row k d from high = absurd (omega (arith, high))

up : IsSorted (keys_cmp by_first) (false_row ∷ true_row ∷ [])
up zero d from high = refl
up (suc k) d from high = absurd (omega (arith, high))

not_down : IsSorted (keys_cmp by_first) (true_row ∷ false_row ∷ []) → ⊥
not_down h = true≢false (h 0 [] (omega arith) (omega arith))

two_apart : Interleaves ((true_row ∷ []) ∷ (false_row ∷ []) ∷ []) (false_row ∷ true_row ∷ [])
unfolding Interleaves Takes
two_apart = (
  (true_row ∷ []) ∷ [] ∷ [],
  inr ([] ∷ [], inl ([], refl, refl), refl),
  (
    [] ∷ [] ∷ [],
    inl ([], refl, refl),
    All-from_recursion (λ (xs : List Row). xs ≡ []) ([] ∷ [] ∷ []) (refl, (refl, tt)),
  ),
)

in_turn : (a b : Row) → Interleaves ((a ∷ b ∷ []) ∷ []) (a ∷ b ∷ [])
unfolding Interleaves Takes
in_turn a b = (
  (b ∷ []) ∷ [],
  inl (b ∷ [], refl, refl),
  ([] ∷ [], inl ([], refl, refl), All-from_recursion (λ (xs : List Row). xs ≡ []) ([] ∷ []) (refl, tt)),
)

-- one list is only interleaved as it stands
alone : (xs out : List Row) → Interleaves (xs ∷ []) out → out ≡ xs
unfolding Takes Interleaves
alone xs [] h = sym (h 0 xs (omega arith))
alone xs (x ∷ out) h = elim h.1 [
  | inl q ↦ ap (λ (ys : List Row). x ∷ ys) (alone q.0 out (subst (λ (r : List (List Row)). Interleaves r out) q.2 h.2)) ∙ sym q.1
  | inr q ↦ absurd q.1
]

pub lesser_is_first : LesserIsFirst
lesser_is_first = (
  (two_apart, λ sorted. up),
  (λ h. not_down (h.1 (All-from_recursion (IsSorted (keys_cmp by_first)) ((true_row ∷ []) ∷ (false_row ∷ []) ∷ []) (one_sorted true_row, (one_sorted false_row, tt))))),
  (in_turn true_row false_row, λ sorted. absurd (not_down (sorted 0 [] (omega arith)))),
)

-- ---- what is taken

pub open_ones_send : OpenOnesSend
open_ones_send = (((refl, refl), tt), (λ h. true≢false h.0.1), (λ h. true≢false h.0.1))

-- ---- what is given

bool_of : List Row → Bool
bool_of ((V.Bool b ∷ row) ∷ rows) = b
bool_of _ = false

pub hand_comes_first : HandComesFirst
unfolding values_of bool_of
hand_comes_first = (
  (
    ((refl, refl), tt),
    record { rest = true_row ∷ false_row ∷ []; output = (in_turn true_row false_row, λ sorted. absurd (not_down (sorted 0 [] (omega arith)))); is = refl },
  ),
  (λ h. true≢false (sym (ap bool_of (h.1.is ∙ alone (true_row ∷ false_row ∷ []) h.1.rest h.1.output.0)))),
)
