-- Parts that are given by their numbers.
use Rattle.std.proofs.Common.{◌≡◌, ◌<◌, ◌≤◌, ◌+◌, ℕ, zero, suc, List, [], ◌∷◌, map, zip, replicate, get_or, refl, ap, sym, subst, ◌∙◌, arith}
use Rattle.std.specs.List.{All, AllByRecursion, AllZip, range_with_len}
use Rattle.std.proofs.lemmas.List.Elements.{All-from_recursion}
use Rattle.std.proofs.lemmas.List.FromFn.{get_or-map-range_with_len, length-map-range_with_len}
use Rattle.al_plan.specs.Eval.{Env}
use Rattle.al_phys.specs.Parts.{Parts, HasEach, in_first}
use Rattle.hy_job.specs.Columns.{Row}
use Rattle.hy_job.specs.Exchange as E
use Rattle.hy_job.specs.Exchange.{parts_by}

-- ---- part by part

module _ {X Y : Type 0} (R : X → Y → Type 0) (f : ℕ → X) (g : ℕ → Y) where
  pairs_from : (a n : ℕ) → ((j : ℕ) → a ≤ j → j < a + n → R (f j) (g j)) → AllZip R (map f (range_with_len a n)) (map g (range_with_len a n))
  pairs_from a zero h = tt
  pairs_from a (suc n) h = (h a (omega arith) (omega arith), pairs_from (a + 1) n (λ j low high. h j (omega (arith, low)) (omega (arith, high))))

  pub pairs : (n : ℕ) → ((j : ℕ) → j < n → R (f j) (g j)) → AllZip R (map f (range_with_len 0 n)) (map g (range_with_len 0 n))
  pairs n h = pairs_from 0 n (λ j low high. h j (omega (arith, high)))

-- parts of two inputs
module _ {X Y Z : Type 0} (R : X × Y → Z → Type 0) (f : ℕ → X) (g : ℕ → Y) (h : ℕ → Z) where
  both_from : (a n : ℕ) → ((j : ℕ) → a ≤ j → j < a + n → R (f j, g j) (h j)) → AllZip R (zip (map f (range_with_len a n)) (map g (range_with_len a n))) (map h (range_with_len a n))
  both_from a zero each = tt
  both_from a (suc n) each = (each a (omega arith) (omega arith), both_from (a + 1) n (λ j low high. each j (omega (arith, low)) (omega (arith, high))))

  pub both : (n : ℕ) → ((j : ℕ) → j < n → R (f j, g j) (h j)) → AllZip R (zip (map f (range_with_len 0 n)) (map g (range_with_len 0 n))) (map h (range_with_len 0 n))
  both n each = both_from 0 n (λ j low high. each j (omega (arith, high)))

module _ {X : Type 0} (P : X → Type 0) (f : ℕ → X) where
  every_from : (a n : ℕ) → ((j : ℕ) → a ≤ j → j < a + n → P (f j)) → AllByRecursion P (map f (range_with_len a n))
  every_from a zero h = tt
  every_from a (suc n) h = (h a (omega arith) (omega arith), every_from (a + 1) n (λ j low high. h j (omega (arith, low)) (omega (arith, high))))

  pub every : (n : ℕ) → ((j : ℕ) → j < n → P (f j)) → AllByRecursion P (map f (range_with_len 0 n))
  every n h = every_from 0 n (λ j low high. h j (omega (arith, high)))

  pub every_part : (n : ℕ) → ((j : ℕ) → j < n → P (f j)) → All P (map f (range_with_len 0 n))
  every_part n h = All-from_recursion P (map f (range_with_len 0 n)) (every n h)

  -- and what holds of all parts holds of each
  pub each_part : (n : ℕ) → All P (map f (range_with_len 0 n)) → (j : ℕ) → j < n → P (f j)
  each_part n h j lt = subst P (get_or-map-range_with_len f 0 n j j (f j) lt (omega arith)) (h j (f j) (subst (λ (m : ℕ). j < m) (sym (length-map-range_with_len f 0 n)) lt))

-- the same parts
module _ {X : Type 0} (f g : ℕ → X) where
  same_from : (a n : ℕ) → ((j : ℕ) → a ≤ j → j < a + n → f j ≡ g j) → map f (range_with_len a n) ≡ map g (range_with_len a n)
  same_from a zero h = refl
  same_from a (suc n) h = λ i. h a (omega arith) (omega arith) i ∷ same_from (a + 1) n (λ j low high. h j (omega (arith, low)) (omega (arith, high))) i

  pub same : (n : ℕ) → ((j : ℕ) → j < n → f j ≡ g j) → map f (range_with_len 0 n) ≡ map g (range_with_len 0 n)
  same n h = same_from 0 n (λ j low high. h j (omega (arith, high)))

-- parts that are changed one by one
module _ {X Y : Type 0} (g : X → Y) (f : ℕ → X) (h : ℕ → Y) where
  through_from : (a n : ℕ) → ((j : ℕ) → a ≤ j → j < a + n → g (f j) ≡ h j) → map g (map f (range_with_len a n)) ≡ map h (range_with_len a n)
  through_from a zero e = refl
  through_from a (suc n) e = λ i. e a (omega arith) (omega arith) i ∷ through_from (a + 1) n (λ j low high. e j (omega (arith, low)) (omega (arith, high))) i

  pub through : (n : ℕ) → ((j : ℕ) → j < n → g (f j) ≡ h j) → map g (map f (range_with_len 0 n)) ≡ map h (range_with_len 0 n)
  through n e = through_from 0 n (λ j low high. e j (omega (arith, high)))

pub part_at : {X : Type 0} (f : ℕ → X) (n j : ℕ) (d : X) → j < n → get_or (map f (range_with_len 0 n)) j d ≡ f j
part_at f n j d lt = get_or-map-range_with_len f 0 n j j d lt (omega arith)

pub has_each : (n : ℕ) (P : ℕ → List Env → Type 0) (f : ℕ → List Env) → ((j : ℕ) → j < n → P j (f j)) → HasEach n P (map f (range_with_len 0 n))
has_each n P f h = record { count = length-map-range_with_len f 0 n; each = λ j lt. subst (P j) (sym (part_at f n j [] lt)) (h j lt) }

-- parts that are the same are so one by one
pub part_same : (n : ℕ) (f g : ℕ → List Row) → parts_by n f ≡ parts_by n g → (j : ℕ) → j < n → f j ≡ g j
part_same n f g e j lt = sym (part_at f n j [] lt) ∙ ap (λ (ps : List (List Row)). get_or ps j []) e ∙ part_at g n j [] lt

-- ---- all rows in the first part

pub rest_empty : {X : Type 0} (f : ℕ → List X) (a n : ℕ) → ((j : ℕ) → a ≤ j → j < a + n → f j ≡ []) → map f (range_with_len a n) ≡ replicate n []
rest_empty f a zero h = refl
rest_empty f a (suc n) h = λ i. h a (omega arith) (omega arith) i ∷ rest_empty f (a + 1) n (λ j low high. h j (omega (arith, low)) (omega (arith, high))) i

pub first_alone : (f : ℕ → List Env) (n : ℕ) → ((j : ℕ) → 0 < j → j < n → f j ≡ []) → map f (range_with_len 0 n) ≡ in_first n (f 0)
first_alone f zero h = refl
first_alone f (suc n) h = ap (λ (ps : Parts). f 0 ∷ ps) (rest_empty f (0 + 1) n (λ j low high. h j (omega (arith, low)) (omega (arith, high))))

nothing_mapped : {X Y : Type 0} (f : X → Y) (n : ℕ) → map (map f) (replicate n []) ≡ replicate n []
nothing_mapped f zero = refl
nothing_mapped f (suc n) = ap (λ (ps : List (List _)). [] ∷ ps) (nothing_mapped f n)

pub first_mapped : (f : Row → Env) (n : ℕ) (rows : List Row) → map (map f) (E.in_first n rows) ≡ in_first n (map f rows)
first_mapped f zero rows = refl
first_mapped f (suc n) rows = ap (λ (ps : Parts). map f rows ∷ ps) (nothing_mapped f n)
