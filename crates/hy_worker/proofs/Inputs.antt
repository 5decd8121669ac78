-- One of several inputs changes.
use Rattle.std.proofs.Common.{◌≡◌, ◌≢◌, ◌<◌, ◌≤◌, ◌+◌, ℕ, zero, suc, nat_eq, Bool, true, List, [], ◌∷◌, length, set, get_or, refl, sym, subst, ◌∙◌, arith, length-set, get_or-set_other}
use Rattle.std.proofs.lemmas.Grind.{get_or-set_at}
use Rattle.std.proofs.lemmas.List.{get_or_default}
use Rattle.hy_job.proofs.Members.{by_cases}
use Rattle.hy_connect.proofs.Merging.{other_number, same_number}
use Rattle.hy_input.specs.Inputs.{InputOf, IsStill, held, most}
use Rattle.hy_input.proofs.Holding.{same_input, still_most, still_sent}
use Rattle.hy_worker.specs.Worker.{AreApart, ended_at, held_inputs, input_at, most_inputs, no_input}

pub read_input : (xs : List InputOf) (k : ℕ) (d : InputOf) → k < length xs → get_or xs k d ≡ input_at xs k
read_input xs k d low = get_or_default xs k d no_input low

pub set_input : (xs : List InputOf) (k : ℕ) (x : InputOf) → k < length xs → input_at (set xs k x) k ≡ x
set_input xs k x low = get_or-set_at xs k k x no_input refl low

pub keep_input : (xs : List InputOf) (k j : ℕ) (x : InputOf) → j ≢ k → input_at (set xs k x) j ≡ input_at xs j
keep_input xs k j x ne = get_or-set_other xs k j x no_input ne

-- it is read again where it was written
pub read_set : (xs : List InputOf) (k : ℕ) (x d : InputOf) → k < length xs → d ≡ get_or (set xs k x) k d → d ≡ x
read_set xs k x d low is = is ∙ read_input (set xs k x) k d (subst (λ (n : ℕ). k < n) (sym (length-set xs k x)) low) ∙ set_input xs k x low

pub set_ended : (xs : List Bool) (k : ℕ) → k < length xs → ended_at (set xs k true) k ≡ true
set_ended xs k low = get_or-set_at xs k k true true refl low

pub keep_ended : (xs : List Bool) (k j : ℕ) → j ≢ k → ended_at (set xs k true) j ≡ ended_at xs j
keep_ended xs k j ne = get_or-set_other xs k j true true ne

-- ---- frames

pub held_set : (xs : List InputOf) (k : ℕ) (x : InputOf) → k < length xs → held_inputs (set xs k x) + held (input_at xs k) ≡ held_inputs xs + held x
held_set [] k x low = absurd (omega arith)
held_set (y ∷ ys) zero x low = omega arith
held_set (y ∷ ys) (suc k) x low = let h = held_set ys k x (omega arith) in omega arith

pub held_least : (xs : List InputOf) (k : ℕ) → k < length xs → held (input_at xs k) ≤ held_inputs xs
held_least [] k low = absurd (omega arith)
held_least (x ∷ xs) zero low = omega arith
held_least (x ∷ xs) (suc k) low = let h = held_least xs k (omega arith) in omega arith

pub held_within : (xs : List InputOf) → ((k : ℕ) → k < length xs → held (input_at xs k) ≤ most (input_at xs k)) → held_inputs xs ≤ most_inputs xs
held_within [] h = omega arith
held_within (x ∷ xs) h = let a = h 0 (omega arith) in let b = held_within xs (λ k low. h (suc k) (omega (arith, low))) in omega arith

pub most_same : (xs ys : List InputOf) → length ys ≡ length xs → ((k : ℕ) → k < length xs → IsStill (input_at xs k) (input_at ys k)) → most_inputs ys ≡ most_inputs xs
most_same [] [] e h = refl
most_same [] (y ∷ ys) e h = absurd (omega (arith, e))
most_same (x ∷ xs) [] e h = absurd (omega (arith, e))
most_same (x ∷ xs) (y ∷ ys) e h =
    let a = still_most x y (h 0 (omega arith)) in
    let b = most_same xs ys (omega (arith, e)) (λ k low. h (suc k) (omega (arith, low))) in
    omega arith

-- ---- mailboxes

pub apart_still : (xs ys : List InputOf) → length ys ≡ length xs → ((k : ℕ) → k < length xs → IsStill (input_at xs k) (input_at ys k)) → AreApart xs → AreApart ys
apart_still xs ys e h apart i j low_i low_j m n p n' p' sent_i sent_j =
    let li : i < length xs = subst (λ (c : ℕ). i < c) e low_i in
    let lj : j < length xs = subst (λ (c : ℕ). j < c) e low_j in
    apart i j li lj m n p n' p' (still_sent (input_at xs i) (input_at ys i) m n p (h i li) sent_i) (still_sent (input_at xs j) (input_at ys j) m n' p' (h j lj) sent_j)

-- ---- one place

module _ (xs : List InputOf) (k : ℕ) (x : InputOf) (low : k < length xs) where
  -- what is true of the new one, and of the others where they are, is true of each
  pub by_place : (P : ℕ → InputOf → Type 0) → P k x → ((j : ℕ) → j ≢ k → P j (input_at xs j)) → (j : ℕ) → P j (input_at (set xs k x) j)
  by_place P here there j = by_cases (nat_eq j k)
      (λ y. subst (λ (i : ℕ). P i (input_at (set xs k x) i)) (sym (same_number j k y)) (subst (P k) (sym (set_input xs k x low)) here))
      (λ m. let ne = other_number j k m in subst (P j) (sym (keep_input xs k j x ne)) (there j ne))

  pub set_still : IsStill (input_at xs k) x → (j : ℕ) → IsStill (input_at xs j) (input_at (set xs k x) j)
  set_still s = by_place (λ j y. IsStill (input_at xs j) y) s (λ j ne. same_input (input_at xs j))
