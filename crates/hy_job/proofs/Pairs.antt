-- Lists of which each item and each later one stand in a relation, and the place of the one item that passes a test.
use Rattle.std.proofs.Common.{◌≡◌, ◌≢◌, inl, inr, ◌<◌, ◌+◌, ℕ, zero, suc, Bool, true, List, [], ◌∷◌, ◌++◌, map, flat_map, filter, length, get_or, Some, None, Option, refl, ap, sym, subst, ◌∙◌, arith}
use Rattle.std.specs.List.{Contains, range_with_len, slice_get}
use Rattle.std.specs.List.Sorted.{IsPermutation}
use Rattle.std.proofs.lemmas.List.Elements.{Contains-append_left, Contains-append_right, Contains-append_cases}
use Rattle.std.proofs.lemmas.Option.{slice_get-get_or}
use Rattle.std.proofs.lemmas.List.FromFn.{get_or-range_with_len, length-range_with_len}
use Rattle.hy_job.specs.Boxes.{place_where}
use Rattle.hy_job.proofs.Members.{by_cases, in_here, in_there, in_none, in_cases, from_filter}
use Rattle.hy_job.proofs.FreeLaws.{along_permutation}

abbrev pub Pairwise : {X : Type 0} → (X → X → Type 0) → List X → Type 0
Pairwise R [] = Unit {0}
Pairwise {X} R (x ∷ xs) = ((y : X) → Contains xs y → R x y) × Pairwise R xs

module _ {X : Type 0} (R : X → X → Type 0) where
  pub pairwise_append : (xs ys : List X) → Pairwise R xs → Pairwise R ys → ((x y : X) → Contains xs x → Contains ys y → R x y) → Pairwise R (xs ++ ys)
  pairwise_append [] ys p q across = q
  pairwise_append (x ∷ xs) ys p q across = (
    λ y m. elim (Contains-append_cases xs ys y m) [ inl h ↦ p.0 y h | inr h ↦ across x y (in_here x xs) h ],
    pairwise_append xs ys p.1 q (λ z y m n. across z y (in_there x z xs m) n),
  )

  pub pairwise_filter : (t : X → Bool) (xs : List X) → Pairwise R xs → Pairwise R (filter t xs)
  pairwise_filter t [] p = tt
  pairwise_filter t (x ∷ xs) p = by_cases (t x)
      (λ y. rw y (λ z m. p.0 z (from_filter t xs z m).0, pairwise_filter t xs p.1))
      (λ n. rw n (pairwise_filter t xs p.1))

  -- two items of which neither stands so to the other are one
  pub one_item : (xs : List X) (x y : X) → Pairwise R xs → Contains xs x → Contains xs y → (R x y → ⊥) → (R y x → ⊥) → x ≡ y
  one_item [] x y p m n a b = absurd (in_none x m)
  one_item (z ∷ xs) x y p m n a b = elim (in_cases z x xs m) [
    | inl e ↦ (elim (in_cases z y xs n) [ inl f ↦ sym e ∙ f | inr k ↦ absurd (a (subst (λ w. R w y) e (p.0 y k))) ])
    | inr h ↦ (elim (in_cases z y xs n) [ inl f ↦ absurd (b (subst (λ w. R w x) f (p.0 x h))) | inr k ↦ one_item xs x y p.1 h k a b ])
  ]

pub pairwise_weaker : {X : Type 0} (R S : X → X → Type 0) → ((x y : X) → R x y → S x y) → (xs : List X) → Pairwise R xs → Pairwise S xs
pairwise_weaker R S f [] p = tt
pairwise_weaker R S f (x ∷ xs) p = (λ y m. f x y (p.0 y m), pairwise_weaker R S f xs p.1)

pub in_map : {X Y : Type 0} (f : X → Y) (xs : List X) (x : X) → Contains xs x → Contains (map f xs) (f x)
in_map f [] x m = absurd (in_none x m)
in_map f (z ∷ xs) x m = elim (in_cases z x xs m) [ inl e ↦ subst (λ y. Contains (f z ∷ map f xs) (f y)) e (in_here (f z) (map f xs)) | inr k ↦ in_there (f z) (f x) (map f xs) (in_map f xs x k) ]

pub from_map : {X Y : Type 0} (f : X → Y) (xs : List X) (y : Y) → Contains (map f xs) y → (x : X) × Contains xs x × (f x ≡ y)
from_map f [] y m = absurd (in_none y m)
from_map f (z ∷ xs) y m = elim (in_cases (f z) y (map f xs) m) [ inl e ↦ (z, in_here z xs, e) | inr k ↦ (let q = from_map f xs y k in (q.0, in_there z q.0 xs q.1, q.2)) ]

pub in_flat_map : {X Y : Type 0} (f : X → List Y) (xs : List X) (x : X) (y : Y) → Contains xs x → Contains (f x) y → Contains (flat_map f xs) y
in_flat_map f [] x y m n = absurd (in_none x m)
in_flat_map f (z ∷ xs) x y m n = elim (in_cases z x xs m) [
  | inl e ↦ Contains-append_left (f z) (flat_map f xs) y (subst (λ w. Contains (f w) y) (sym e) n)
  | inr k ↦ Contains-append_right (f z) (flat_map f xs) y (in_flat_map f xs x y k n)
]

pub from_flat_map : {X Y : Type 0} (f : X → List Y) (xs : List X) (y : Y) → Contains (flat_map f xs) y → (x : X) × Contains xs x × Contains (f x) y
from_flat_map f [] y m = absurd (in_none y m)
from_flat_map f (z ∷ xs) y m = elim (Contains-append_cases (f z) (flat_map f xs) y m) [
  | inl h ↦ (z, in_here z xs, h)
  | inr h ↦ (let q = from_flat_map f xs y h in (q.0, in_there z q.0 xs q.1, q.2))
]

pub pairwise_map : {X Y : Type 0} (R : Y → Y → Type 0) (f : X → Y) (xs : List X) → Pairwise (λ x y. R (f x) (f y)) xs → Pairwise R (map f xs)
pairwise_map R f [] p = tt
pairwise_map R f (x ∷ xs) p = (λ y m. (let q = from_map f xs y m in subst (R (f x)) q.2 (p.0 q.0 q.1)), pairwise_map R f xs p.1)

pub pairwise_flat_map : {X Y : Type 0} (R : Y → Y → Type 0) (f : X → List Y) (xs : List X) → ((x : X) → Pairwise R (f x)) → Pairwise (λ x z. (a b : Y) → Contains (f x) a → Contains (f z) b → R a b) xs → Pairwise R (flat_map f xs)
pairwise_flat_map R f [] own p = tt
pairwise_flat_map R f (x ∷ xs) own p =
    pairwise_append R (f x) (flat_map f xs) (own x) (pairwise_flat_map R f xs own p.1)
    (λ a b m n. (let q = from_flat_map f xs b n in p.0 q.0 q.1 a b m q.2))

-- ---- different items

pub from_range : (a n x : ℕ) → Contains (range_with_len a n) x → (a < x + 1) × (x < a + n)
from_range a zero x m = absurd (in_none x m)
from_range a (suc n) x m = elim (in_cases a x (range_with_len (a + 1) n) m) [ inl e ↦ (omega (arith, e), omega (arith, e)) | inr k ↦ (let q = from_range (a + 1) n x k in (omega (arith, q.0), omega (arith, q.1))) ]

pub in_range : (n x : ℕ) → x < n → Contains (range_with_len 0 n) x
in_range n x lt = (x, omega (arith, lt, length-range_with_len 0 n), get_or-range_with_len 0 n x x lt ∙ omega arith)

pub range_distinct : (a n : ℕ) → Pairwise ◌≢◌ (range_with_len a n)
range_distinct a zero = tt
range_distinct a (suc n) = (λ y m e. (let q = from_range (a + 1) n y m in omega (arith, q.0, e)), range_distinct (a + 1) n)

pub permutation_distinct : {X : Type 0} (xs ys : List X) → IsPermutation xs ys → Pairwise ◌≢◌ xs → Pairwise ◌≢◌ ys
permutation_distinct {X} xs ys p = (along_permutation Keeps
    (λ xs. (λ h. h, λ z m. m))
    (λ x xs ys k. (
      λ h. (λ y m. h.0 y (k.1 y m), k.0 h.1),
      λ z m. elim (in_cases x z ys m) [ inl e ↦ subst (λ w. Contains (w ∷ xs) z) (sym e) (in_here z xs) | inr n ↦ in_there x z xs (k.1 z n) ],
    ))
    (λ x y xs. (
      λ h. (λ z m. elim (in_cases x z xs m) [ inl e ↦ (λ f. h.0 y (in_here y xs) (e ∙ sym f)) | inr n ↦ h.1.0 z n ], (λ z n. h.0 z (in_there y z xs n), h.1.1)),
      λ z m. elim (in_cases y z (x ∷ xs) m) [
        | inl e ↦ in_there x z (y ∷ xs) (subst (λ w. Contains (w ∷ xs) z) (sym e) (in_here z xs))
        | inr n ↦ elim (in_cases x z xs n) [ inl e ↦ subst (λ w. Contains (w ∷ y ∷ xs) z) (sym e) (in_here z (y ∷ xs)) | inr o ↦ in_there x z (y ∷ xs) (in_there y z xs o) ]
      ],
    ))
    (λ xs ys zs a b. (λ h. b.0 (a.0 h), λ z m. a.1 z (b.1 z m)))
    xs ys p).0
  where
    Keeps : List X → List X → Type 0
    Keeps xs ys = (Pairwise ◌≢◌ xs → Pairwise ◌≢◌ ys) × ((z : X) → Contains ys z → Contains xs z)

-- ---- places

-- what stands at a place does not depend on what would stand at none
pub get_same : {X : Type 0} (ys : List X) (k : ℕ) (d e : X) → k < length ys → get_or ys k e ≡ get_or ys k d
get_same [] k d e lt = absurd (omega (arith, lt))
get_same (y ∷ ys) zero d e lt = refl
get_same (y ∷ ys) (suc k) d e lt = get_same ys k d e (omega (arith, lt))

pub at_in : {X : Type 0} (xs : List X) (k : ℕ) (d : X) → k < length xs → Contains xs (get_or xs k d)
at_in xs k d lt = (k, lt, get_same xs k d (get_or xs k d) lt)

pub slice_at : {X : Type 0} (xs : List X) (k : ℕ) (x : X) → slice_get xs k ≡ Some x → (k < length xs) × ((d : X) → get_or xs k d ≡ x)
slice_at {X = X} [] k x e = absurd (no e)
  where
    no : ◌≡◌ {A = Option X} None (Some x) → ⊥
    no q = cc
slice_at (y ∷ ys) zero x e = (omega arith, λ d. inside e)
  where
    inside : Some y ≡ Some x → y ≡ x
    inside q = cc
slice_at (y ∷ ys) (suc k) x e = let q = slice_at ys k x e in (omega (arith, q.0), q.1)

pub slice_from : {X : Type 0} (xs : List X) (k : ℕ) (x d : X) → k < length xs → get_or xs k d ≡ x → slice_get xs k ≡ Some x
slice_from xs k x d lt e = slice_get-get_or xs k d lt ∙ ap (λ y. Some y) e

module _ {X : Type 0} (p : X → Bool) where
  -- of a list in which no two items pass, the one that passes is found
  pub place_is : (xs : List X) (k : ℕ) (x d : X) → Pairwise (λ a b. p a ≡ true → p b ≡ true → ⊥) xs → k < length xs → get_or xs k d ≡ x → p x ≡ true → place_where p xs ≡ k
  place_is [] k x d one lt at passes = absurd (omega (arith, lt))
  place_is (z ∷ xs) zero x d one lt at passes = let e : p z ≡ true = ap p at ∙ passes in rw e refl
  place_is (z ∷ xs) (suc k) x d one lt at passes = by_cases (p z)
      (λ t. absurd (one.0 x (k, omega (arith, lt), get_same xs k d x (omega (arith, lt)) ∙ at) t passes))
      (λ f. rw f (let q = place_is xs k x d one.1 (omega (arith, lt)) at passes in omega (arith, q)))

-- two places with items of which neither stands so to the other are one
pub one_place : {X : Type 0} (R : X → X → Type 0) (xs : List X) (k l : ℕ) (d : X) → Pairwise R xs → k < length xs → l < length xs → (R (get_or xs k d) (get_or xs l d) → ⊥) → (R (get_or xs l d) (get_or xs k d) → ⊥) → k ≡ l
one_place R [] k l d p lk ll a b = absurd (omega (arith, lk))
one_place R (x ∷ xs) zero zero d p lk ll a b = refl
one_place R (x ∷ xs) zero (suc l) d p lk ll a b = absurd (a (p.0 (get_or xs l d) (at_in xs l d (omega (arith, ll)))))
one_place R (x ∷ xs) (suc k) zero d p lk ll a b = absurd (b (p.0 (get_or xs k d) (at_in xs k d (omega (arith, lk)))))
one_place R (x ∷ xs) (suc k) (suc l) d p lk ll a b = let q = one_place R xs k l d p.1 (omega (arith, lk)) (omega (arith, ll)) a b in omega (arith, q)
