-- Rows that are kept once.
use Rattle.std.proofs.Common.{◌≡◌, ◌≢◌, ◌<◌, ◌+◌, ℕ, List, [], ◌∷◌, ◌++◌, length, take, get_or, sym, subst}
use Rattle.std.specs.List.{All, AllByRecursion, Contains}
use Rattle.std.proofs.lemmas.List.{take_more}
use Rattle.std.proofs.lemmas.List.Elements.{All-append, All-weaker, All-from_recursion, recursion_from_All, Contains-append_left, Contains-push, Contains-get_or}
use Rattle.al_plan.proofs.Moves.{Apart, apart_from_pairs, pairs_from_apart}
use Rattle.al_plain.specs.Rows.{Cells, AreDistinct}

one : {X : Type 0} (P : X → Type 0) (x : X) → P x → All P (x ∷ [])
one P x h = All-from_recursion P (x ∷ []) (h, tt)

push_apart : {X : Type 0} (R : X → X → Type 0) (xs : List X) (x : X) → AllByRecursion (λ y. R y x) xs → Apart R xs → Apart R (xs ++ x ∷ [])
push_apart R [] x h a = (tt, tt)
push_apart R (y ∷ xs) x h a = (recursion_from_All (R y) (xs ++ x ∷ []) (All-append (R y) xs (x ∷ []) (All-from_recursion (R y) xs a.0) (one (R y) x h.0)), push_apart R xs x h.1 a.1)

all_other : {X : Type 0} (xs : List X) (x : X) → (Contains xs x → ⊥) → All (λ y. y ≢ x) xs
all_other xs x none k d low same = none (subst (Contains xs) same (Contains-get_or xs k d low))

next_same : (xs kept : List Cells) (x : Cells) → AreDistinct xs kept → Contains kept x → AreDistinct (xs ++ x ∷ []) kept
next_same xs kept x h there = record {
  within = All-weaker (Contains xs) (Contains (xs ++ x ∷ [])) (λ y i. Contains-append_left xs (x ∷ []) y i) kept h.within;
  every = All-append (Contains kept) xs (x ∷ []) h.every (one (Contains kept) x there);
  once = h.once;
}

next_new : (xs kept : List Cells) (x : Cells) → AreDistinct xs kept → (Contains kept x → ⊥) → AreDistinct (xs ++ x ∷ []) (kept ++ x ∷ [])
next_new xs kept x h none = record {
  within = All-append (Contains (xs ++ x ∷ [])) kept (x ∷ []) (All-weaker (Contains xs) (Contains (xs ++ x ∷ [])) (λ y i. Contains-append_left xs (x ∷ []) y i) kept h.within) (one (Contains (xs ++ x ∷ [])) x (Contains-push xs x));
  every = All-append (Contains (kept ++ x ∷ [])) xs (x ∷ []) (All-weaker (Contains kept) (Contains (kept ++ x ∷ [])) (λ y i. Contains-append_left kept (x ∷ []) y i) xs h.every) (one (Contains (kept ++ x ∷ [])) x (Contains-push kept x));
  once = pairs_from_apart ◌≢◌ (kept ++ x ∷ []) (push_apart ◌≢◌ kept x (recursion_from_All (λ y. y ≢ x) kept (all_other kept x none)) (apart_from_pairs ◌≢◌ kept h.once));
}

upto : {X : Type 0} (xs : List X) (i : ℕ) (x : X) → i < length xs → x ≡ get_or xs i x → take i xs ++ x ∷ [] ≡ take (i + 1) xs
upto xs i x low is = subst (λ y. take i xs ++ y ∷ [] ≡ take (i + 1) xs) (sym is) (sym (take_more xs i x low))

-- a row that is among the kept ones adds none
pub keeps_same : (rows kept : List Cells) (i : ℕ) (x : Cells) → i < length rows → x ≡ get_or rows i x → AreDistinct (take i rows) kept → Contains kept x → AreDistinct (take (i + 1) rows) kept
keeps_same rows kept i x low is h there = subst (λ xs. AreDistinct xs kept) (upto rows i x low is) (next_same (take i rows) kept x h there)

-- another row is kept too
pub keeps_new : (rows kept : List Cells) (i : ℕ) (x : Cells) → i < length rows → x ≡ get_or rows i x → AreDistinct (take i rows) kept → (Contains kept x → ⊥) → AreDistinct (take (i + 1) rows) (kept ++ x ∷ [])
keeps_new rows kept i x low is h none = subst (λ xs. AreDistinct xs (kept ++ x ∷ [])) (upto rows i x low is) (next_new (take i rows) kept x h none)
