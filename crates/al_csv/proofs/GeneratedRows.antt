-- The text of a generated row, and of the rows one after the other.
use Rattle.std.proofs.Common.{ℕ, zero, suc, ◌+◌, ◌/◌, ◌%◌, ◌^◌, List, [], ◌∷◌, ◌++◌, ◌≡◌, ◌∙◌, refl, ap, arith, append_assoc, add-one, codes}
use Rattle.std.specs.List.{flat_map, range_with_len}
use Rattle.std.specs.Fmt.{decimal}
use Rattle.std.proofs.lemmas.Grind.{flat_map-append}
use Rattle.std.proofs.lemmas.List.{append-nil}
use Rattle.al_csv.specs.Generator.{generated_row, letter, next, number_after, row_at}

range_push : (a n : ℕ) → range_with_len a (n + 1) ≡ range_with_len a n ++ ((a + n) ∷ [])
range_push a n = rw add-one (go a n)
  where
    go : (a n : ℕ) → range_with_len a (suc n) ≡ range_with_len a n ++ ((a + n) ∷ [])
    go a zero = let e : a + 0 ≡ a = omega arith in rw e refl
    go a (suc n) = let e : (a + 1) + n ≡ a + suc n = omega arith in ap (λ (xs : List ℕ). a ∷ xs) (go (a + 1) n ∙ ap (λ (k : ℕ). range_with_len (a + 1) n ++ (k ∷ [])) e)

pub rows_more : (seed n : ℕ) → flat_map (row_at seed) (range_with_len 0 (n + 1)) ≡ flat_map (row_at seed) (range_with_len 0 n) ++ row_at seed n
rows_more seed n =
    let e : 0 + n ≡ n = omega arith in
    rw (range_push 0 n, e, flat_map-append (row_at seed) (range_with_len 0 n) (n ∷ [])) (ap (λ (t : List ℕ). flat_map (row_at seed) (range_with_len 0 n) ++ t) (append-nil (row_at seed n)))

pub number_next : (seed n : ℕ) → next (number_after seed n) ≡ number_after seed (n + 1)
unfolding number_after
number_next seed n = rw add-one refl

pub number_none : (seed : ℕ) → number_after seed 0 ≡ seed
unfolding number_after
number_none seed = refl

pub row_is : (id x : ℕ) (text : List ℕ)
    → (((text ++ (decimal id ++ codes ",")) ++ (decimal ((x / 2 ^ 33) % 100) ++ codes ",")) ++ (decimal ((x / 2 ^ 20) % 1000000) ++ codes ","))
    ++ (letter x 0 ∷ letter x 8 ∷ letter x 16 ∷ letter x 24 ∷ letter x 32 ∷ letter x 40 ∷ 10 ∷ [])
    ≡ text ++ generated_row id x
unfolding generated_row
row_is id x text = simp append_assoc
