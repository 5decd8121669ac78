-- Lists of rows, seen through a map.
use Rattle.std.proofs.Common.{◌≡◌, ◌<◌, ◌+◌, List, [], ◌∷◌, ◌++◌, map, flat_map, length, refl, ap, sym, subst, ◌∙◌, arith, Bool, true, false, cond, filter}
use Rattle.std.specs.List.{All, AllByRecursion, AllPairs, AllZip, Contains}
use Rattle.std.specs.List.Sorted.{IsSorted}
use Rattle.std.specs.declared.cmp.Ordering.{Ordering}
use Rattle.std.specs.Ordering.{is_lt}
use Rattle.std.proofs.lemmas.List.{map-append, length-map, get_or-map}
use Rattle.std.proofs.lemmas.List.Elements.{All-append, All-map, All-weaker, All-from_recursion, recursion_from_All}
use Rattle.al_plan.proofs.Moves.{Apart, apart_from_pairs, pairs_from_apart}

module _ {X Y Z V : Type 0} (P : X → Type 0) (g : Y → V) (b : X → Z) where
  -- one element for each
  pub map-through : (f : X → Y) (k : Z → V) → ((x : X) → P x → g (f x) ≡ k (b x)) → (xs : List X) → AllByRecursion P xs → map g (map f xs) ≡ map k (map b xs)
  map-through f k same [] h = refl
  map-through f k same (x ∷ xs) h = λ i. same x h.0 i ∷ map-through f k same xs h.1 i

  -- several elements for each
  pub flat-through : (f : X → List Y) (k : Z → List V) → ((x : X) → P x → map g (f x) ≡ k (b x)) → (xs : List X) → AllByRecursion P xs → map g (flat_map f xs) ≡ flat_map k (map b xs)
  flat-through f k same [] h = refl
  flat-through f k same (x ∷ xs) h = map-append g (f x) (flat_map f xs) ∙ (λ i. same x h.0 i ++ flat-through f k same xs h.1 i)

-- two maps that agree on each element
pub map-agree : {X Y Z : Type 0} (P : X → Type 0) (f : X → Y) (g : Z → Y) (b : X → Z) → ((x : X) → P x → f x ≡ g (b x)) → (xs : List X) → AllByRecursion P xs → map f xs ≡ map g (map b xs)
map-agree P f g b same [] h = refl
map-agree P f g b same (x ∷ xs) h = λ i. same x h.0 i ∷ map-agree P f g b same xs h.1 i

-- the elements that pass a test, which their images pass too
pub filter-through : {X Y : Type 0} (P : X → Type 0) (f : X → Y) (p : X → Bool) (q : Y → Bool) → ((x : X) → P x → p x ≡ q (f x)) → (xs : List X) → AllByRecursion P xs → map f (filter p xs) ≡ filter q (map f xs)
filter-through P f p q same [] h = refl
filter-through P f p q same (x ∷ xs) h =
    ap (λ (b : Bool). map f (cond b (x ∷ filter p xs) (filter p xs))) (same x h.0) ∙ kept (q (f x)) ∙ ap (λ more. cond (q (f x)) (f x ∷ more) more) (filter-through P f p q same xs h.1)
  where
    kept : (b : Bool) → map f (cond b (x ∷ filter p xs) (filter p xs)) ≡ cond b (f x ∷ map f (filter p xs)) (map f (filter p xs))
    kept true = refl
    kept false = refl

pub each_map : {X Y : Type 0} (P : X → Type 0) (Q : Y → Type 0) (f : X → Y) → ((x : X) → P x → Q (f x)) → (xs : List X) → All P xs → All Q (map f xs)
each_map P Q f g xs h = All-map Q f xs (All-weaker P (λ x. Q (f x)) g xs h)

each_flat_at : {X Y : Type 0} (P : X → Type 0) (Q : Y → Type 0) (f : X → List Y) → ((x : X) → P x → All Q (f x)) → (xs : List X) → AllByRecursion P xs → All Q (flat_map f xs)
each_flat_at P Q f g [] h = All-from_recursion Q [] tt
each_flat_at P Q f g (x ∷ xs) h = All-append Q (f x) (flat_map f xs) (g x h.0) (each_flat_at P Q f g xs h.1)

pub each_flat : {X Y : Type 0} (P : X → Type 0) (Q : Y → Type 0) (f : X → List Y) → ((x : X) → P x → All Q (f x)) → (xs : List X) → All P xs → All Q (flat_map f xs)
each_flat P Q f g xs h = each_flat_at P Q f g xs (recursion_from_All P xs h)

pub each_one : {X : Type 0} (P : X → Type 0) (x : X) → P x → All P (x ∷ [])
each_one P x h = All-from_recursion P (x ∷ []) (h, tt)

pub Contains-map : {X Y : Type 0} (f : X → Y) (xs : List X) (x : X) → Contains xs x → Contains (map f xs) (f x)
Contains-map f xs x h =
    let low : h.0 < length (map f xs) = subst (λ n. h.0 < n) (sym (length-map xs f)) h.1 in
    (h.0, low, get_or-map f xs h.0 x (f x) h.1 ∙ ap f h.2)

-- through maps of both lists
pub zip-map : {X Y Z V : Type 0} (R : X → Y → Type 0) (S : Z → V → Type 0) (f : X → Z) (g : Y → V) → (P : X → Type 0) → ((x : X) (y : Y) → P x → R x y → S (f x) (g y)) → (xs : List X) (ys : List Y) → AllByRecursion P xs → AllZip R xs ys → AllZip S (map f xs) (map g ys)
zip-map R S f g P k [] [] p h = tt
zip-map R S f g P k [] (y ∷ ys) p h = h
zip-map R S f g P k (x ∷ xs) [] p h = h
zip-map R S f g P k (x ∷ xs) (y ∷ ys) p h = (k x y p.0 h.0, zip-map R S f g P k xs ys p.1 h.1)

-- what holds of one of each zipped pair gives what holds of the other
pub zip-all : {X Y : Type 0} (P : X → Type 0) (Q : Y → Type 0) (R : X → Y → Type 0) → ((x : X) (y : Y) → P x → R x y → Q y) → (xs : List X) (ys : List Y) → AllByRecursion P xs → AllZip R xs ys → AllByRecursion Q ys
zip-all P Q R f [] [] p h = tt
zip-all P Q R f [] (y ∷ ys) p h = absurd h
zip-all P Q R f (x ∷ xs) [] p h = absurd h
zip-all P Q R f (x ∷ xs) (y ∷ ys) p h = (f x y p.0 h.0, zip-all P Q R f xs ys p.1 h.1)

pub all_halves : {X : Type 0} (P : X → Type 0) (xs ys : List X) → AllByRecursion P (xs ++ ys) → AllByRecursion P xs × AllByRecursion P ys
all_halves P [] ys h = (tt, h)
all_halves P (x ∷ xs) ys h = let more = all_halves P xs ys h.1 in ((h.0, more.0), more.1)

unflat : {X Y : Type 0} (P : Y → Type 0) (f : X → List Y) (xs : List X) → AllByRecursion P (flat_map f xs) → AllByRecursion (λ x. AllByRecursion P (f x)) xs
unflat P f [] h = tt
unflat P f (x ∷ xs) h = let both = all_halves P (f x) (flat_map f xs) h in (both.0, unflat P f xs both.1)

-- what holds of all elements of the lists holds of each list's elements
pub All-unflat : {X Y : Type 0} (P : Y → Type 0) (f : X → List Y) (xs : List X) → All P (flat_map f xs) → AllByRecursion (λ x. AllByRecursion P (f x)) xs
All-unflat P f xs h = unflat P f xs (recursion_from_All P (flat_map f xs) h)

-- any two elements, through a map
module _ {X Y : Type 0} (P : X → Type 0) (R : X → X → Type 0) (S : Y → Y → Type 0) (f : X → Y) (k : (a b : X) → P a → P b → R a b → S (f a) (f b)) where
  apart_others : (x : X) → P x → (xs : List X) → AllByRecursion P xs → AllByRecursion (R x) xs → AllByRecursion (S (f x)) (map f xs)
  apart_others x p [] ps h = tt
  apart_others x p (y ∷ xs) ps h = (k x y p ps.0 h.0, apart_others x p xs ps.1 h.1)

  apart_map : (xs : List X) → AllByRecursion P xs → Apart R xs → Apart S (map f xs)
  apart_map [] ps h = tt
  apart_map (x ∷ xs) ps h = (apart_others x ps.0 xs ps.1 h.0, apart_map xs ps.1 h.1)

  pub pairs-map : (xs : List X) → AllByRecursion P xs → AllPairs R xs → AllPairs S (map f xs)
  pairs-map xs ps h = pairs_from_apart S (map f xs) (apart_map xs ps (apart_from_pairs R xs h))

-- an order that agrees with another through a map
module _ {X Y : Type 0} (P : X → Type 0) (R : X → X → Ordering) (S : Y → Y → Ordering) (f : X → Y) (same : (a b : X) → P a → P b → R a b ≡ S (f a) (f b)) where
  pub sorted-map : (xs : List X) → All P xs → IsSorted R xs → IsSorted S (map f xs)
  sorted-map [] h sorted k d low high = absurd (omega arith)
  sorted-map (x ∷ xs) h sorted k d low high =
      let within : k + 1 < length (x ∷ xs) = omega (arith, length-map (x ∷ xs) f) in
      let before : k < length (x ∷ xs) = omega arith in
      (λ i. is_lt (S (get_or-map f (x ∷ xs) (k + 1) x d within i) (get_or-map f (x ∷ xs) k x d before i)))
      ∙ ap is_lt (sym (same _ _ (h (k + 1) x within) (h k x before))) ∙ sorted k x low within

  pub sorted-unmap : (xs : List X) → All P xs → IsSorted S (map f xs) → IsSorted R xs
  sorted-unmap xs h sorted k d low high =
      let before : k < length xs = omega arith in
      ap is_lt (same _ _ (h (k + 1) d high) (h k d before))
      ∙ (λ i. is_lt (S (sym (get_or-map f xs (k + 1) d (f d) high) i) (sym (get_or-map f xs k d (f d) before) i)))
      ∙ sorted k (f d) low (subst (λ n. k + 1 < n) (sym (length-map xs f)) high)
