-- Outputs that may come in any order.
use Rattle.std.proofs.Common.{◌≡◌, ℕ, zero, suc, ◌<◌, true, false, List, [], ◌∷◌, map, flat_map, length, get_or, set, swap, refl, ap, subst, arith, append_assoc}
use Rattle.std.specs.List.{AllZip, All}
use Rattle.std.specs.List.Sorted.{IsPermutation}
use Rattle.std.proofs.lemmas.List.Elements.{All-from_recursion, recursion_from_All}
use Rattle.std.proofs.lemmas.List.Sorted.{IsPermutation-refl, IsPermutation-cons, IsPermutation-keeps, IsPermutation-trans, IsPermutation-append_left, IsPermutation-append_right, IsPermutation-append_comm, All-permutation, length_permutation}
use Rattle.hy_job.specs.declared.job.Kind.TheVariants as K
use Rattle.hy_job.specs.Columns.{Row, rows_in, key_of}
use Rattle.hy_job.specs.Runs.{piece_row, InFirst, FreeOutputs}

-- A relation holds along each permutation if it is reflexive and transitive, and goes under a head and over an exchange of two heads.
module _ {X : Type 0} (R : List X → List X → Type 0) (same : (xs : List X) → R xs xs)
    (skip : (x : X) (xs ys : List X) → R xs ys → R (x ∷ xs) (x ∷ ys))
    (turn : (x y : X) (xs : List X) → R (x ∷ y ∷ xs) (y ∷ x ∷ xs))
    (chain : (xs ys zs : List X) → R xs ys → R ys zs → R xs zs) where
  to_head : (l : List X) (j : ℕ) (x d : X) → j < length l → R (x ∷ l) (get_or l j d ∷ set l j x)
  to_head [] j x d h = absurd (omega arith)
  to_head (y ∷ l) zero x d h = turn x y l
  to_head (y ∷ l) (suc j) x d h =
      chain _ _ _ (turn x y l) (chain _ _ _ (skip y _ _ (to_head l j x d (omega arith))) (turn y (get_or l j d) (set l j x)))

  exchanged : (l : List X) (i j : ℕ) (d : X) → i < length l → j < length l → R l (set (set l i (get_or l j d)) j (get_or l i d))
  exchanged [] i j d p q = absurd (omega arith)
  exchanged (x ∷ l) zero zero d p q = same (x ∷ l)
  exchanged (x ∷ l) zero (suc j) d p q = to_head l j x d (omega arith)
  exchanged (x ∷ l) (suc i) zero d p q = to_head l i x d (omega arith)
  exchanged (x ∷ l) (suc i) (suc j) d p q = skip x _ _ (exchanged l i j d (omega arith) (omega arith))

  swapped : (l : List X) (i j : ℕ) → i < length l → j < length l → R l (swap l i j)
  swapped [] i j p q = same []
  swapped (x ∷ l) i j p q = exchanged (x ∷ l) i j x p q

  pub along_permutation : (xs ys : List X) → IsPermutation xs ys → R xs ys
  along_permutation xs = IsPermutation-keeps xs (R xs) (same xs) (λ l i j p q h. chain xs l _ h (swapped l i j p q))

pub IsPermutation-same : {X : Type 0} (xs ys : List X) → xs ≡ ys → IsPermutation xs ys
IsPermutation-same xs ys e = subst (IsPermutation xs) e (IsPermutation-refl xs)

pub IsPermutation-turn : {X : Type 0} (x y : X) (xs : List X) → IsPermutation (x ∷ y ∷ xs) (y ∷ x ∷ xs)
IsPermutation-turn x y xs = IsPermutation-append_left xs (x ∷ y ∷ []) (y ∷ x ∷ []) (IsPermutation-append_comm (x ∷ []) (y ∷ []))

pub IsPermutation-flat_map : {A B : Type 0} (f : A → List B) (xs ys : List A) → IsPermutation xs ys → IsPermutation (flat_map f xs) (flat_map f ys)
IsPermutation-flat_map f = along_permutation (λ xs ys. IsPermutation (flat_map f xs) (flat_map f ys))
    (λ xs. IsPermutation-refl _)
    (λ x xs ys h. IsPermutation-append_right (f x) _ _ h)
    (λ x y xs. rw (← append_assoc (f x), ← append_assoc (f y)) (IsPermutation-append_left (flat_map f xs) _ _ (IsPermutation-append_comm (f x) (f y))))
    (λ xs ys zs. IsPermutation-trans _ _ _)

pub IsPermutation-one : {X : Type 0} (x : X) (ys : List X) → IsPermutation (x ∷ []) ys → ys ≡ x ∷ []
IsPermutation-one x [] same = absurd (omega (arith, length_permutation _ _ same))
IsPermutation-one x (y ∷ []) same = ap (λ z. z ∷ []) (recursion_from_All (λ z. z ≡ x) (y ∷ []) (All-permutation (λ z. z ≡ x) (x ∷ []) (y ∷ []) same (All-from_recursion (λ z. z ≡ x) (x ∷ []) (refl, tt)))).0
IsPermutation-one x (y ∷ z ∷ ys) same = absurd (omega (arith, length_permutation _ _ same))

-- Rows in another order come of inputs in another order.
abbrev pub Comes : {X Y : Type 0} → (X → Y → Type 0) → List X → List Y → Type 0
Comes {X} R xs zs = (ws : List X) × IsPermutation xs ws × AllZip R ws zs

abbrev Follows : {X Y : Type 0} → (X → Y → Type 0) → List Y → List Y → Type 0
Follows {X} R ys zs = (xs : List X) → AllZip R xs ys → Comes R xs zs

follows_skip : {X Y : Type 0} (R : X → Y → Type 0) (y : Y) (ys zs : List Y) → Follows R ys zs → Follows R (y ∷ ys) (y ∷ zs)
follows_skip R y ys zs f [] h = absurd h
follows_skip R y ys zs f (x ∷ xs) h = let more = f xs h.1 in (x ∷ more.0, IsPermutation-cons x _ _ more.1, (h.0, more.2))

follows_turn : {X Y : Type 0} (R : X → Y → Type 0) (y z : Y) (ys : List Y) → Follows R (y ∷ z ∷ ys) (z ∷ y ∷ ys)
follows_turn R y z ys [] h = absurd h
follows_turn R y z ys (a ∷ []) h = absurd h.1
follows_turn R y z ys (a ∷ b ∷ xs) h = (b ∷ a ∷ xs, IsPermutation-turn a b xs, (h.1.0, (h.0, h.1.1)))

pub AllZip-permutation : {X Y : Type 0} (R : X → Y → Type 0) (xs : List X) (ys zs : List Y) → AllZip R xs ys → IsPermutation ys zs → Comes R xs zs
AllZip-permutation R xs ys zs h moved =
    along_permutation (Follows R) (λ ys xs h. (xs, IsPermutation-refl xs, h)) (follows_skip R) (follows_turn R)
    (λ ys zs us f g xs h. let one = f xs h in let two = g one.0 one.2 in (two.0, IsPermutation-trans _ _ _ one.1 two.1, two.2)) ys zs moved xs h

pub AllZip-map : {X Y : Type 0} (f : X → Y) (xs : List X) → AllZip (λ x y. y ≡ f x) xs (map f xs)
AllZip-map f [] = tt
AllZip-map f (x ∷ xs) = (refl, AllZip-map f xs)

pub map-AllZip : {X Y : Type 0} (f : X → Y) (xs : List X) (ys : List Y) → AllZip (λ x y. y ≡ f x) xs ys → ys ≡ map f xs
map-AllZip f [] [] h = refl
map-AllZip f [] (y ∷ ys) h = absurd h
map-AllZip f (x ∷ xs) [] h = absurd h
map-AllZip f (x ∷ xs) (y ∷ ys) h = λ i. h.0 i ∷ map-AllZip f xs ys h.1 i

-- a permutation of mapped rows is a map of permuted rows
pub IsPermutation-lift : {X Y : Type 0} (f : X → Y) (xs : List X) (ys : List Y) → IsPermutation (map f xs) ys → (zs : List X) × IsPermutation xs zs × (ys ≡ map f zs)
IsPermutation-lift f xs ys h = let come = AllZip-permutation (λ x y. y ≡ f x) xs (map f xs) ys (AllZip-map f xs) h in (come.0, come.1, map-AllZip f come.0 ys come.2)

none_of : (xs : List Row) → IsPermutation [] xs → xs ≡ []
none_of [] p = refl
none_of (x ∷ xs) p = absurd (omega (arith, length_permutation _ _ p))

first_only : (P : List Row → Type 0) (j : ℕ) (out moved : List Row) → ((xs : List Row) → P out → IsPermutation out xs → P xs) → InFirst P j out → IsPermutation out moved → InFirst P j moved
first_only P zero out moved f h p = f moved h p
first_only P (suc j) out moved f h p = none_of moved (subst (λ xs. IsPermutation xs moved) h p)

pub free_outputs : FreeOutputs
free_outputs (K.SortBuild keys) arity n j received scanned handed out moved free h p = IsPermutation-trans _ _ _ h p
free_outputs (K.JoinBuild arg) arity n j received scanned handed out moved free h p = IsPermutation-trans _ _ _ h p
free_outputs (K.JoinProbe arg) arity n j received scanned handed out moved free h p = IsPermutation-trans _ _ _ h p
free_outputs (K.GroupEmit arg) arity n j received scanned handed out moved free h p = (h.0, h.1, h.2, h.3, IsPermutation-trans _ _ _ h.4 p)
free_outputs (K.GroupBuild arg) arity n j received scanned handed out moved free h p =
    let q = IsPermutation-lift (piece_row arg) h.0 moved (subst (λ xs. IsPermutation xs moved) h.2 p) in (
      q.0,
      record {
        moved = IsPermutation-trans _ _ _ h.1.moved (IsPermutation-flat_map rows_in h.0 q.0 q.1);
        alike = All-permutation (λ g. All (λ r. key_of arg.keys r ≡ key_of arg.keys g.0) g.1) h.0 q.0 q.1 h.1.alike;
      },
      q.2,
    )
free_outputs (K.AggPart made) arity n j received scanned handed out moved free h p = IsPermutation-one _ moved (subst (λ xs. IsPermutation xs moved) h p)
free_outputs (K.AggFinal made) arity n j received scanned handed out moved free h p =
    first_only _ j out moved (λ xs g q. (g.0, g.1, IsPermutation-one g.0 xs (subst (λ ys. IsPermutation ys xs) g.2 q))) h p
free_outputs _ arity n j received scanned handed out moved free h p = absurd (no free)
  where
    no : false ≡ true → ⊥
    no e = cc
