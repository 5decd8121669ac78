-- What operators leave.
use Rattle.std.proofs.Common.{◌≡◌, ◌⊎◌, inl, inr, ◌+◌, ℕ, List, [], ◌∷◌, length, map, refl, sym, ap, subst, ◌∙◌, arith}
use Rattle.std.specs.List.{All, AllByRecursion}
use Rattle.std.specs.List.Sorted.{IsPermutation}
use Rattle.std.proofs.lemmas.List.Elements.{All-from_recursion}
use Rattle.std.proofs.lemmas.List.Sorted.{IsPermutation-refl, length_permutation}
use Rattle.hy_frame.specs.Row.{Fields}
use Rattle.hy_driver.specs.Seen.{Seen, no_store}
use Rattle.hy_driver.specs.Handing.{HandedOn, IsDone}
use Rattle.hy_driver.specs.declared.handed.Handed.{Handed}
use Rattle.hy_operator.specs.Kinds.{StandsBeside}

empty : {A : Type 0} (xs : List A) → length xs ≡ 0 → xs ≡ []
empty [] e = refl
empty (x ∷ xs) e = absurd (omega (arith, e))

-- who holds no frame, and no live run, leaves rows beside the bank alone
pub beside_of : (s : Seen) (h : Handed) → HandedOn s h → IsDone s → s.frames ≡ 0 → s.store.runs.live ≡ [] → StandsBeside s.fixed.arity h
beside_of s h handed done none live = record {
  fit = handed.fit;
  frames = empty h.frames (handed.frames ∙ none);
  runs = no_runs done;
}
  where
    no_runs : IsDone s → h.runs ≡ []
    no_runs (inl ended) = empty h.runs (length_permutation _ _ (handed.runs ended) ∙ ap (λ (l : List ℕ). length l) live)
    no_runs (inr given_up) = (handed.none given_up).1

-- nothing
abbrev pub IsNothing : Handed → Type 0
IsNothing h = (h.rows ≡ []) × (h.frames ≡ []) × (h.runs ≡ [])

pub nothing_beside : (width : ℕ) (h : Handed) → IsNothing h → StandsBeside width h
nothing_beside width h is = record {
  fit = rw is.0 (All-from_recursion (λ (row : Fields). length row ≡ width) [] tt);
  frames = is.1;
  runs = is.2;
}

-- who has neither a store nor a frame, and hands no rows on, leaves nothing
pub nothing_handed : (s : Seen) (h : Handed) → IsNothing h → s.frames ≡ 0 → s.store ≡ no_store → s.hands_on ≡ [] → HandedOn s h
nothing_handed s h is none store on = record {
  frames = rw is.1 (sym none);
  shape = rw is.1 tt;
  fit = rw is.0 (All-from_recursion (λ (row : Fields). length row ≡ s.fixed.arity) [] tt);
  runs = λ e. rw (store, is.2) (IsPermutation-refl []);
  shapes = λ e. rw is.2 tt;
  rows = λ e sound. rw (store, on, is.0, is.1, is.2) refl;
  none = λ e. (is.0, is.2);
}
