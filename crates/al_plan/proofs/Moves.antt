-- Permutations, and what follows them.
use Rattle.std.proofs.Common.{◌≡◌, ℕ, zero, suc, ◌<◌, Bool, true, false, cond, List, [], ◌∷◌, ◌++◌, map, filter, flat_map, length, get_or, set, swap, refl, ap, subst, arith, append_assoc}
use Rattle.std.specs.List.{AllByRecursion, AllZip, AllPairs}
use Rattle.std.specs.List.Sorted.{IsPermutation}
use Rattle.std.proofs.lemmas.List.Elements.{All-from_recursion, recursion_from_All}
use Rattle.std.proofs.lemmas.List.Sorted.{IsPermutation-refl, IsPermutation-cons, IsPermutation-keeps, IsPermutation-trans, IsPermutation-append_left, IsPermutation-append_right, IsPermutation-append_comm, All-permutation, length_permutation}

-- A relation holds along each permutation if it is reflexive and transitive, and goes under a head and over an exchange of two heads.
module _ {X : Type 0} (R : List X → List X → Type 0) (same : (xs : List X) → R xs xs)
    (skip : (x : X) (xs ys : List X) → R xs ys → R (x ∷ xs) (x ∷ ys))
    (turn : (x y : X) (xs : List X) → R (x ∷ y ∷ xs) (y ∷ x ∷ xs))
    (chain : (xs ys zs : List X) → R xs ys → R ys zs → R xs zs) where
  to_head : (l : List X) (j : ℕ) (x d : X) → j < length l → R (x ∷ l) (get_or l j d ∷ set l j x)
  to_head [] j x d h = absurd (omega arith)
  to_head (y ∷ l) zero x d h = turn x y l
  to_head (y ∷ l) (suc j) x d h =
      chain _ _ _ (turn x y l) (chain _ _ _ (skip y _ _ (to_head l j x d (omega arith))) (turn y (get_or l j d) (set l j x)))

  exchanged : (l : List X) (i j : ℕ) (d : X) → i < length l → j < length l → R l (set (set l i (get_or l j d)) j (get_or l i d))
  exchanged [] i j d p q = absurd (omega arith)
  exchanged (x ∷ l) zero zero d p q = same (x ∷ l)
  exchanged (x ∷ l) zero (suc j) d p q = to_head l j x d (omega arith)
  exchanged (x ∷ l) (suc i) zero d p q = to_head l i x d (omega arith)
  exchanged (x ∷ l) (suc i) (suc j) d p q = skip x _ _ (exchanged l i j d (omega arith) (omega arith))

  swapped : (l : List X) (i j : ℕ) → i < length l → j < length l → R l (swap l i j)
  swapped [] i j p q = same []
  swapped (x ∷ l) i j p q = exchanged (x ∷ l) i j x p q

  pub along_permutation : (xs ys : List X) → IsPermutation xs ys → R xs ys
  along_permutation xs = IsPermutation-keeps xs (R xs) (same xs) (λ l i j p q h. chain xs l _ h (swapped l i j p q))

pub IsPermutation-same : {X : Type 0} (xs ys : List X) → xs ≡ ys → IsPermutation xs ys
IsPermutation-same xs ys e = subst (IsPermutation xs) e (IsPermutation-refl xs)

pub IsPermutation-turn : {X : Type 0} (x y : X) (xs : List X) → IsPermutation (x ∷ y ∷ xs) (y ∷ x ∷ xs)
IsPermutation-turn x y xs = IsPermutation-append_left xs (x ∷ y ∷ []) (y ∷ x ∷ []) (IsPermutation-append_comm (x ∷ []) (y ∷ []))

pub IsPermutation-flat_map : {A B : Type 0} (f : A → List B) (xs ys : List A) → IsPermutation xs ys → IsPermutation (flat_map f xs) (flat_map f ys)
IsPermutation-flat_map f = along_permutation (λ xs ys. IsPermutation (flat_map f xs) (flat_map f ys))
    (λ xs. IsPermutation-refl _)
    (λ x xs ys h. IsPermutation-append_right (f x) _ _ h)
    (λ x y xs. rw (← append_assoc (f x), ← append_assoc (f y)) (IsPermutation-append_left (flat_map f xs) _ _ (IsPermutation-append_comm (f x) (f y))))
    (λ xs ys zs. IsPermutation-trans _ _ _)

filter_as_flat_map : {A : Type 0} (p : A → Bool) (xs : List A) → filter p xs ≡ flat_map (λ x. cond (p x) (x ∷ []) []) xs
filter_as_flat_map p [] = refl
filter_as_flat_map p (x ∷ xs) =
    elim (p x) as (λ b. cond b (x ∷ filter p xs) (filter p xs) ≡ cond b (x ∷ []) [] ++ flat_map (λ y. cond (p y) (y ∷ []) []) xs)
    [ true ↦ ap (λ ys. x ∷ ys) (filter_as_flat_map p xs) | false ↦ filter_as_flat_map p xs ]

pub IsPermutation-filter : {A : Type 0} (p : A → Bool) (xs ys : List A) → IsPermutation xs ys → IsPermutation (filter p xs) (filter p ys)
IsPermutation-filter p xs ys h = rw (filter_as_flat_map p xs, filter_as_flat_map p ys) (IsPermutation-flat_map _ xs ys h)

pub IsPermutation-one : {X : Type 0} (x : X) (ys : List X) → IsPermutation (x ∷ []) ys → ys ≡ x ∷ []
IsPermutation-one x [] same = absurd (omega (arith, length_permutation _ _ same))
IsPermutation-one x (y ∷ []) same = ap (λ z. z ∷ []) (recursion_from_All (λ z. z ≡ x) (y ∷ []) (All-permutation (λ z. z ≡ x) (x ∷ []) (y ∷ []) same (All-from_recursion (λ z. z ≡ x) (x ∷ []) (refl, tt)))).0
IsPermutation-one x (y ∷ z ∷ ys) same = absurd (omega (arith, length_permutation _ _ same))

-- Rows in another order come of inputs in another order.
abbrev pub Comes : {X Y : Type 0} → (X → Y → Type 0) → List X → List Y → Type 0
Comes {X} R xs zs = (ws : List X) × IsPermutation xs ws × AllZip R ws zs

abbrev Follows : {X Y : Type 0} → (X → Y → Type 0) → List Y → List Y → Type 0
Follows {X} R ys zs = (xs : List X) → AllZip R xs ys → Comes R xs zs

follows_skip : {X Y : Type 0} (R : X → Y → Type 0) (y : Y) (ys zs : List Y) → Follows R ys zs → Follows R (y ∷ ys) (y ∷ zs)
follows_skip R y ys zs f [] h = absurd h
follows_skip R y ys zs f (x ∷ xs) h = let more = f xs h.1 in (x ∷ more.0, IsPermutation-cons x _ _ more.1, (h.0, more.2))

follows_turn : {X Y : Type 0} (R : X → Y → Type 0) (y z : Y) (ys : List Y) → Follows R (y ∷ z ∷ ys) (z ∷ y ∷ ys)
follows_turn R y z ys [] h = absurd h
follows_turn R y z ys (a ∷ []) h = absurd h.1
follows_turn R y z ys (a ∷ b ∷ xs) h = (b ∷ a ∷ xs, IsPermutation-turn a b xs, (h.1.0, (h.0, h.1.1)))

pub AllZip-permutation : {X Y : Type 0} (R : X → Y → Type 0) (xs : List X) (ys zs : List Y) → AllZip R xs ys → IsPermutation ys zs → Comes R xs zs
AllZip-permutation R xs ys zs h moved =
    along_permutation (Follows R) (λ ys xs h. (xs, IsPermutation-refl xs, h)) (follows_skip R) (follows_turn R)
    (λ ys zs us f g xs h. let one = f xs h in let two = g one.0 one.2 in (two.0, IsPermutation-trans _ _ _ one.1 two.1, two.2)) ys zs moved xs h

pub AllZip-map : {X Y : Type 0} (f : X → Y) (xs : List X) → AllZip (λ x y. y ≡ f x) xs (map f xs)
AllZip-map f [] = tt
AllZip-map f (x ∷ xs) = (refl, AllZip-map f xs)

pub map-AllZip : {X Y : Type 0} (f : X → Y) (xs : List X) (ys : List Y) → AllZip (λ x y. y ≡ f x) xs ys → ys ≡ map f xs
map-AllZip f [] [] h = refl
map-AllZip f [] (y ∷ ys) h = absurd h
map-AllZip f (x ∷ xs) [] h = absurd h
map-AllZip f (x ∷ xs) (y ∷ ys) h = λ i. h.0 i ∷ map-AllZip f xs ys h.1 i

-- a permutation of mapped rows is a map of permuted rows
pub IsPermutation-lift : {X Y : Type 0} (f : X → Y) (xs : List X) (ys : List Y) → IsPermutation (map f xs) ys → (zs : List X) × IsPermutation xs zs × (ys ≡ map f zs)
IsPermutation-lift f xs ys h = let come = AllZip-permutation (λ x y. y ≡ f x) xs (map f xs) ys (AllZip-map f xs) h in (come.0, come.1, map-AllZip f come.0 ys come.2)

pub filter_all : {X : Type 0} (p : X → Bool) (xs : List X) → AllByRecursion (λ x. p x ≡ true) xs → filter p xs ≡ xs
filter_all p [] h = refl
filter_all p (x ∷ xs) h = rw (h.0, filter_all p xs h.1)

pub filter_none : {X : Type 0} (p : X → Bool) (xs : List X) → AllByRecursion (λ x. p x ≡ false) xs → filter p xs ≡ []
filter_none p [] h = refl
filter_none p (x ∷ xs) h = rw (h.0, filter_none p xs h.1)

-- a symmetric relation between any two elements stays in another order
abbrev pub Apart : {X : Type 0} → (X → X → Type 0) → List X → Type 0
Apart R [] = Unit {0}
Apart R (x ∷ xs) = AllByRecursion (R x) xs × Apart R xs

pub apart_from_pairs : {X : Type 0} (R : X → X → Type 0) (xs : List X) → AllPairs R xs → Apart R xs
apart_from_pairs R [] f = tt
apart_from_pairs R (x ∷ xs) f = (recursion_from_All (R x) xs (λ k d h. f zero (suc k) d (omega arith) (omega arith)), apart_from_pairs R xs (λ i j d lt h. f (suc i) (suc j) d (omega arith) (omega arith)))

pub pairs_from_apart : {X : Type 0} (R : X → X → Type 0) (xs : List X) → Apart R xs → AllPairs R xs
pairs_from_apart R [] h i j d lt low = absurd (omega arith)
pairs_from_apart R (x ∷ xs) h i zero d lt low = absurd (omega arith)
pairs_from_apart R (x ∷ xs) h zero (suc j) d lt low = All-from_recursion (R x) xs h.0 j d (omega arith)
pairs_from_apart R (x ∷ xs) h (suc i) (suc j) d lt low = pairs_from_apart R xs h.1 i j d (omega arith) (omega arith)

abbrev KeepsApart : {X : Type 0} → (X → X → Type 0) → List X → List X → Type 0
KeepsApart R xs ys = IsPermutation xs ys × (Apart R xs → Apart R ys)

apart_skip : {X : Type 0} (R : X → X → Type 0) (x : X) (xs ys : List X) → KeepsApart R xs ys → KeepsApart R (x ∷ xs) (x ∷ ys)
apart_skip R x xs ys f = (IsPermutation-cons x _ _ f.0, λ h. (recursion_from_All (R x) ys (All-permutation (R x) xs ys f.0 (All-from_recursion (R x) xs h.0)), f.1 h.1))

apart_turn : {X : Type 0} (R : X → X → Type 0) → ((x y : X) → R x y → R y x) → (x y : X) (xs : List X) → KeepsApart R (x ∷ y ∷ xs) (y ∷ x ∷ xs)
apart_turn R flip x y xs = (IsPermutation-turn x y xs, λ h. ((flip x y h.0.0, h.1.0), (h.0.1, h.1.1)))

pub AllPairs-permutation : {X : Type 0} (R : X → X → Type 0) → ((x y : X) → R x y → R y x) → (xs ys : List X) → IsPermutation xs ys → AllPairs R xs → AllPairs R ys
AllPairs-permutation R flip xs ys moved h =
    let kept = along_permutation (KeepsApart R) (λ xs. (IsPermutation-refl xs, λ h. h)) (apart_skip R) (apart_turn R flip) (λ xs ys zs f g. (IsPermutation-trans _ _ _ f.0 g.0, λ h. g.1 (f.1 h))) xs ys moved in
    pairs_from_apart R ys (kept.1 (apart_from_pairs R xs h))
