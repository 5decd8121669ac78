-- Lists that are merged, one item after the other.
use Rattle.std.proofs.Common.{◌≡◌, ◌≢◌, ◌<◌, ◌≤◌, ◌+◌, inl, inr, ℕ, zero, suc, true, false, nat_eq, List, [], ◌∷◌, map, refl, sym, ap, subst, ◌∙◌, arith, add-one}
use Rattle.std.specs.List.{All, AllByRecursion, range_with_len}
use Rattle.std.specs.List.Sorted.{IsSorted}
use Rattle.std.specs.Cmp.{IsStrictWeakOrder}
use Rattle.std.specs.Ordering.{is_lt}
use Rattle.std.specs.declared.cmp.Ordering.{Ordering}
use Rattle.std.proofs.lemmas.List.Elements.{All-from_recursion}
use Rattle.std.proofs.lemmas.List.FromFn.{length-map-range_with_len, get_or-map-range_with_len}
use Rattle.std.proofs.lemmas.List.Sorted.{ranks_by}
use Rattle.al_value.specs.declared.settings.SortKey.{SortKey}
use Rattle.hy_job.specs.Columns.{Interleaves, Takes, keys_cmp}
use Rattle.hy_job.proofs.KeyOrder.{keys_cmp_total}
use Rattle.hy_job.proofs.Members.{by_cases}
use Rattle.hy_job.proofs.RunRows.{interleaves_all}
use Rattle.hy_driver.specs.Rows.{Row}
use Rattle.hy_connect.specs.Merges.{IsMerge}

-- ---- lists that are given by numbers

module _ {A : Type 0} where
  pub map_same : (f g : ℕ → A) (a n : ℕ) → ((s : ℕ) → s < a + n → f s ≡ g s) → map f (range_with_len a n) ≡ map g (range_with_len a n)
  map_same f g a zero same = refl
  map_same f g a (suc n) same = ap (λ (x : A). x ∷ map f (range_with_len (a + 1) n)) (same a (omega arith)) ∙ ap (λ (xs : List A). g a ∷ xs) (map_same f g (a + 1) n (λ s high. same s (omega (arith, high))))

  -- those behind a place are the same
  map_behind : (f g : ℕ → A) (k b n : ℕ) → k < b → ((s : ℕ) → s < b + n → s ≢ k → f s ≡ g s) → map g (range_with_len b n) ≡ map f (range_with_len b n)
  map_behind f g k b zero low same = refl
  map_behind f g k b (suc n) low same = ap (λ (x : A). x ∷ map g (range_with_len (b + 1) n)) (sym (same b (omega arith) (λ e. absurd (omega (arith, e, low))))) ∙ ap (λ (xs : List A). f b ∷ xs) (map_behind f g k (b + 1) n (omega (arith, low)) (λ s high. same s (omega (arith, high))))

  pub each_number : (P : A → Type 0) (f : ℕ → A) (a n : ℕ) → ((s : ℕ) → s < a + n → P (f s)) → AllByRecursion P (map f (range_with_len a n))
  each_number P f a zero h = tt
  each_number P f a (suc n) h = (h a (omega arith), each_number P f (a + 1) n (λ s high. h s (omega (arith, high))))

  pub at_number : (P : A → Type 0) (f : ℕ → A) (n s : ℕ) → All P (map f (range_with_len 0 n)) → s < n → P (f s)
  at_number P f n s all low =
      subst P (get_or-map-range_with_len f 0 n s s (f s) low (omega arith)) (all s (f s) (let count = length-map-range_with_len f 0 n in omega (arith, low, count)))

-- ---- interleavings

pub same_number : (a k : ℕ) → nat_eq a k ≡ true → a ≡ k
same_number a k e = grind arith

pub other_number : (a k : ℕ) → nat_eq a k ≡ false → a ≢ k
other_number a k e = grind arith

module _ {A : Type 0} where
  -- the item in front of one list is taken
  pub takes_of : (f g : ℕ → List A) (x : A) (k a n : ℕ) → ((s : ℕ) → s < a + n → s ≢ k → f s ≡ g s) → f k ≡ x ∷ g k → a ≤ k → k < a + n
      → Takes (map f (range_with_len a n)) x (map g (range_with_len a n))
  unfolding Takes
  takes_of f g x k a zero same first low high = absurd (omega (arith, low, high))
  takes_of f g x k a (suc n) same first low high = by_cases (nat_eq a k)
      (λ t. let e = same_number a k t in
      inl (g a, subst (λ (s : ℕ). f s ≡ x ∷ g s) (sym e) first, ap (λ (xs : List (List A)). g a ∷ xs) (map_behind f g k (a + 1) n (omega (arith, e)) (λ s high. same s (omega (arith, high))))))
      (λ m. let ne = other_number a k m in
      inr (map g (range_with_len (a + 1) n), takes_of f g x k (a + 1) n (λ s up. same s (omega (arith, up))) first (omega (arith, low, ne)) (omega (arith, high)), ap (λ (xs : List A). xs ∷ map g (range_with_len (a + 1) n)) (sym (same a (omega arith) ne))))

  takes_none : (xss : List (List A)) (x : A) (rest : List (List A)) → AllByRecursion (λ ys. ys ≡ []) xss → Takes xss x rest → ⊥
  unfolding Takes
  takes_none [] x rest g t = t
  takes_none (ys ∷ xss) x rest g t = elim t [ inl q ↦ no q.0 (sym g.0 ∙ q.1) | inr q ↦ takes_none xss x q.0 g.1 q.1 ]
    where
      no : (more : List A) → [] ≡ x ∷ more → ⊥
      no more e = cc

  pub interleaves_none : (xss : List (List A)) (xs : List A) → AllByRecursion (λ ys. ys ≡ []) xss → Interleaves xss xs → xs ≡ []
  unfolding Interleaves
  interleaves_none xss [] e h = refl
  interleaves_none xss (x ∷ xs) e h = absurd (takes_none xss x h.0 e h.1)

  pub none_interleaved : (xss : List (List A)) → AllByRecursion (λ ys. ys ≡ []) xss → Interleaves xss []
  unfolding Interleaves
  none_interleaved xss e = All-from_recursion (λ ys. ys ≡ []) xss e

  pub interleaved_more : (xss yss : List (List A)) (x : A) (xs : List A) → Takes xss x yss → Interleaves yss xs → Interleaves xss (x ∷ xs)
  unfolding Interleaves
  interleaved_more xss yss x xs t i = (yss, t, i)

-- ---- order

-- the second is not less than the first
abbrev pub NotLess : {X : Type 0} → (X → X → Ordering) → X → X → Type 0
NotLess cmp x y = is_lt (cmp y x) ≡ false

module _ {X : Type 0} (cmp : X → X → Ordering) (order : IsStrictWeakOrder (λ x y. is_lt (cmp x y))) where
  pub not_less_then : (x y z : X) → NotLess cmp x y → NotLess cmp y z → NotLess cmp x z
  not_less_then x y z a b = order.chain z y x b a

  pub sorted_tail : (x : X) (xs : List X) → IsSorted cmp (x ∷ xs) → IsSorted cmp xs
  sorted_tail x xs h k d from high = simp add-one (simp add-one at (h (suc k) d (omega arith) (omega (arith, high))))

  pub sorted_second : (x y : X) (xs : List X) → IsSorted cmp (x ∷ y ∷ xs) → NotLess cmp x y
  sorted_second x y xs h = h 0 x (omega arith) (omega arith)

  pub sorted_more : (x : X) (xs : List X) → AllByRecursion (NotLess cmp x) xs → IsSorted cmp xs → IsSorted cmp (x ∷ xs)
  sorted_more x [] low h k d from high = absurd (omega (arith, high))
  sorted_more x (y ∷ ys) low h zero d from high = low.0
  sorted_more x (y ∷ ys) low h (suc k) d from high = simp add-one (simp add-one at (h k d (omega arith) (omega (arith, high))))

  -- what is not more than the first item of a sorted list is not more than any
  pub below_all : (x y : X) (ys : List X) → NotLess cmp x y → IsSorted cmp (y ∷ ys) → AllByRecursion (NotLess cmp x) (y ∷ ys)
  below_all x y [] a h = (a, tt)
  below_all x y (z ∷ ys) a h = (a, below_all x z ys (not_less_then x y z a (sorted_second y z ys h)) (sorted_tail y (z ∷ ys) h))

  pub after_first : (x : X) (xs : List X) → IsSorted cmp (x ∷ xs) → AllByRecursion (NotLess cmp x) xs
  after_first x [] h = tt
  after_first x (y ∷ ys) h = below_all x y ys (sorted_second x y ys h) (sorted_tail x (y ∷ ys) h)

-- ---- merges

pub merge_same : (keys : List SortKey) (f g : ℕ → List Row) (n : ℕ) (put : List Row) → ((s : ℕ) → s < n → f s ≡ g s) → IsMerge keys (map g (range_with_len 0 n)) put → IsMerge keys (map f (range_with_len 0 n)) put
merge_same keys f g n put same h = subst (λ (xss : List (List Row)). IsMerge keys xss put) (sym (map_same f g 0 n (λ s low. same s (omega (arith, low))))) h

pub merge_none : (keys : List SortKey) (f : ℕ → List Row) (n : ℕ) → ((s : ℕ) → s < n → f s ≡ []) → IsMerge keys (map f (range_with_len 0 n)) []
merge_none keys f n none = (
  none_interleaved (map f (range_with_len 0 n)) (each_number (λ (xs : List Row). xs ≡ []) f 0 n (λ s low. none s (omega (arith, low)))),
  λ sorted k d from high. absurd (omega (arith, high)),
)

pub merged_none : (keys : List SortKey) (f : ℕ → List Row) (n : ℕ) (put : List Row) → ((s : ℕ) → s < n → f s ≡ []) → IsMerge keys (map f (range_with_len 0 n)) put → put ≡ []
merged_none keys f n put none h = interleaves_none (map f (range_with_len 0 n)) put (each_number (λ (xs : List Row). xs ≡ []) f 0 n (λ s low. none s (omega (arith, low)))) h.0

pub keys_order : (keys : List SortKey) → IsStrictWeakOrder (λ (a b : Row). is_lt (keys_cmp keys a b))
keys_order keys = ranks_by (keys_cmp_total keys) (λ (row : Row). row)

module _ (keys : List SortKey) (f g : ℕ → List Row) (n k : ℕ) (x : Row) (there : k < n) (first : f k ≡ x ∷ g k) (same : (s : ℕ) → s < n → s ≢ k → f s ≡ g s) where
  -- where each list is sorted, so is each that is left
  left_sorted : (s : ℕ) → nat_eq s k ≡ true → IsSorted (keys_cmp keys) (f s) → IsSorted (keys_cmp keys) (g s)
  left_sorted s e h = let is = same_number s k e in sorted_tail (keys_cmp keys) (keys_order keys) x (g s) (subst (IsSorted (keys_cmp keys)) (subst (λ (j : ℕ). f j ≡ x ∷ g j) (sym is) first) h)

  each_sorted : (s : ℕ) → s < n → IsSorted (keys_cmp keys) (f s) → IsSorted (keys_cmp keys) (g s)
  each_sorted s low h = by_cases (nat_eq s k) (λ e. left_sorted s e h) (λ m. subst (IsSorted (keys_cmp keys)) (same s low (other_number s k m)) h)

  -- where it is not more than any that is left, a row may be taken from the front of its list
  pub merge_first : ((s : ℕ) → s < n → IsSorted (keys_cmp keys) (f s) → AllByRecursion (NotLess (keys_cmp keys) x) (g s)) → (rest : List Row)
      → IsMerge keys (map g (range_with_len 0 n)) rest → IsMerge keys (map f (range_with_len 0 n)) (x ∷ rest)
  merge_first low rest h = (
    interleaved_more (map f (range_with_len 0 n)) (map g (range_with_len 0 n)) x rest (takes_of f g x k 0 n (λ s up. same s (omega (arith, up))) first (omega arith) (omega (arith, there))) h.0,
    λ sorted. sorted_more (keys_cmp keys) (keys_order keys) x rest
        (interleaves_all (NotLess (keys_cmp keys) x) (map g (range_with_len 0 n)) rest
        (each_number (AllByRecursion (NotLess (keys_cmp keys) x)) g 0 n (λ s in_range. low s (omega (arith, in_range)) (at_number (IsSorted (keys_cmp keys)) f n s sorted (omega (arith, in_range))))) h.0)
        (h.1 (All-from_recursion (IsSorted (keys_cmp keys)) (map g (range_with_len 0 n)) (each_number (IsSorted (keys_cmp keys)) g 0 n (λ s in_range. each_sorted s (omega (arith, in_range)) (at_number (IsSorted (keys_cmp keys)) f n s sorted (omega (arith, in_range))))))),
  )
