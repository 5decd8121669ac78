-- Lists that are made element by element, seen through a map.
use Rattle.std.proofs.Common.{◌≡◌, ◌<◌, List, [], ◌∷◌, ◌++◌, map, flat_map, length, refl, ap, sym, subst, ◌∙◌, Bool, false, arith}
use Rattle.std.specs.Prelude.{◌&&◌}
use Rattle.std.specs.List.{All, AllByRecursion, AllPairs, AllZip, Contains, list_all}
use Rattle.std.proofs.lemmas.List.{map-append, length-map}
use Rattle.std.proofs.Math.ListN.{get_or-map}
use Rattle.std.proofs.lemmas.List.Elements.{All-append, All-map, All-weaker, All-from_recursion, recursion_from_All, Contains-append_right}
use Rattle.al_plan.proofs.Bools.{no, by_cases}
use Rattle.al_plan.proofs.Moves.{Apart, apart_from_pairs, pairs_from_apart}

module _ {X Y Z V : Type 0} (P : X → Type 0) (g : Y → V) (b : X → Z) where
  -- one element for each
  pub map-through : (f : X → Y) (k : Z → V) → ((x : X) → P x → g (f x) ≡ k (b x)) → (xs : List X) → AllByRecursion P xs → map g (map f xs) ≡ map k (map b xs)
  map-through f k same [] h = refl
  map-through f k same (x ∷ xs) h = λ i. same x h.0 i ∷ map-through f k same xs h.1 i

  -- several elements for each
  pub flat-through : (f : X → List Y) (k : Z → List V) → ((x : X) → P x → map g (f x) ≡ k (b x)) → (xs : List X) → AllByRecursion P xs → map g (flat_map f xs) ≡ flat_map k (map b xs)
  flat-through f k same [] h = refl
  flat-through f k same (x ∷ xs) h = map-append g (f x) (flat_map f xs) ∙ (λ i. same x h.0 i ++ flat-through f k same xs h.1 i)

pub each_map : {X Y : Type 0} (P : X → Type 0) (Q : Y → Type 0) (f : X → Y) → ((x : X) → P x → Q (f x)) → (xs : List X) → All P xs → All Q (map f xs)
each_map P Q f g xs h = All-map Q f xs (All-weaker P (λ x. Q (f x)) g xs h)

each_flat_at : {X Y : Type 0} (P : X → Type 0) (Q : Y → Type 0) (f : X → List Y) → ((x : X) → P x → All Q (f x)) → (xs : List X) → AllByRecursion P xs → All Q (flat_map f xs)
each_flat_at P Q f g [] h = All-from_recursion Q [] tt
each_flat_at P Q f g (x ∷ xs) h = All-append Q (f x) (flat_map f xs) (g x h.0) (each_flat_at P Q f g xs h.1)

pub each_flat : {X Y : Type 0} (P : X → Type 0) (Q : Y → Type 0) (f : X → List Y) → ((x : X) → P x → All Q (f x)) → (xs : List X) → All P xs → All Q (flat_map f xs)
each_flat P Q f g xs h = each_flat_at P Q f g xs (recursion_from_All P xs h)

pub each_one : {X : Type 0} (P : X → Type 0) (x : X) → P x → All P (x ∷ [])
each_one P x h = All-from_recursion P (x ∷ []) (h, tt)

pub Contains-map : {X Y : Type 0} (f : X → Y) (xs : List X) (x : X) → Contains xs x → Contains (map f xs) (f x)
Contains-map f xs x h =
    let low : h.0 < length (map f xs) = subst (λ n. h.0 < n) (sym (length-map xs f)) h.1 in
    (h.0, low, get_or-map f xs h.0 x ∙ ap f h.2)

pub zip-push : {X Y : Type 0} (R : X → Y → Type 0) (xs : List X) (ys : List Y) (x : X) (y : Y) → AllZip R xs ys → R x y → AllZip R (xs ++ x ∷ []) (ys ++ y ∷ [])
zip-push R [] [] x y h r = (r, tt)
zip-push R [] (z ∷ ys) x y h r = absurd h
zip-push R (z ∷ xs) [] x y h r = absurd h
zip-push R (z ∷ xs) (w ∷ ys) x y h r = (h.0, zip-push R xs ys x y h.1 r)

-- through maps of both lists
pub zip-map : {X Y Z V : Type 0} (R : X → Y → Type 0) (S : Z → V → Type 0) (f : X → Z) (g : Y → V) → (P : X → Type 0) → ((x : X) (y : Y) → P x → R x y → S (f x) (g y)) → (xs : List X) (ys : List Y) → AllByRecursion P xs → AllZip R xs ys → AllZip S (map f xs) (map g ys)
zip-map R S f g P k [] [] p h = tt
zip-map R S f g P k [] (y ∷ ys) p h = h
zip-map R S f g P k (x ∷ xs) [] p h = h
zip-map R S f g P k (x ∷ xs) (y ∷ ys) p h = (k x y p.0 h.0, zip-map R S f g P k xs ys p.1 h.1)

all_halves : {X : Type 0} (P : X → Type 0) (xs ys : List X) → AllByRecursion P (xs ++ ys) → AllByRecursion P xs × AllByRecursion P ys
all_halves P [] ys h = (tt, h)
all_halves P (x ∷ xs) ys h = let more = all_halves P xs ys h.1 in ((h.0, more.0), more.1)

pub All-front : {X : Type 0} (P : X → Type 0) (xs ys : List X) → All P (xs ++ ys) → All P xs
All-front P xs ys h = All-from_recursion P xs (all_halves P xs ys (recursion_from_All P (xs ++ ys) h)).0

pub All-back : {X : Type 0} (P : X → Type 0) (xs ys : List X) → All P (xs ++ ys) → All P ys
All-back P xs ys h = All-from_recursion P ys (all_halves P xs ys (recursion_from_All P (xs ++ ys) h)).1

-- any two elements, through a map
module _ {X Y : Type 0} (P : X → Type 0) (R : X → X → Type 0) (S : Y → Y → Type 0) (f : X → Y) (k : (a b : X) → P a → P b → R a b → S (f a) (f b)) where
  apart_others : (x : X) → P x → (xs : List X) → AllByRecursion P xs → AllByRecursion (R x) xs → AllByRecursion (S (f x)) (map f xs)
  apart_others x p [] ps h = tt
  apart_others x p (y ∷ xs) ps h = (k x y p ps.0 h.0, apart_others x p xs ps.1 h.1)

  apart_map : (xs : List X) → AllByRecursion P xs → Apart R xs → Apart S (map f xs)
  apart_map [] ps h = tt
  apart_map (x ∷ xs) ps h = (apart_others x ps.0 xs ps.1 h.0, apart_map xs ps.1 h.1)

  pub pairs-map : (xs : List X) → All P xs → AllPairs R xs → AllPairs S (map f xs)
  pairs-map xs ps h = pairs_from_apart S (map f xs) (apart_map xs (recursion_from_All P xs ps) (apart_from_pairs R xs h))

unmapped : {X Y : Type 0} (P : Y → Type 0) (f : X → Y) (xs : List X) → AllByRecursion P (map f xs) → AllByRecursion (λ x. P (f x)) xs
unmapped P f [] h = tt
unmapped P f (x ∷ xs) h = (h.0, unmapped P f xs h.1)

pub All-unmap : {X Y : Type 0} (P : Y → Type 0) (f : X → Y) (xs : List X) → All P (map f xs) → All (λ x. P (f x)) xs
All-unmap P f xs h = All-from_recursion (λ x. P (f x)) xs (unmapped P f xs (recursion_from_All P (map f xs) h))

-- an element at which a test fails
pub some_fails : {X : Type 0} (p : X → Bool) (xs : List X) → list_all p xs ≡ false → (x : X) × Contains xs x × (p x ≡ false)
some_fails p [] e = absurd (no e)
some_fails p (x ∷ xs) e =
    by_cases (p x)
    (λ t. let more = some_fails p xs (ap (λ b. b && list_all p xs) (sym t) ∙ e) in (more.0, Contains-append_right (x ∷ []) xs more.0 more.1, more.2))
    (λ f. (x, (0, omega arith, refl), f))

unflat : {X Y : Type 0} (P : Y → Type 0) (f : X → List Y) (xs : List X) → All P (flat_map f xs) → AllByRecursion (λ x. All P (f x)) xs
unflat P f [] h = tt
unflat P f (x ∷ xs) h = (All-front P (f x) (flat_map f xs) h, unflat P f xs (All-back P (f x) (flat_map f xs) h))

pub All-unflat : {X Y : Type 0} (P : Y → Type 0) (f : X → List Y) (xs : List X) → All P (flat_map f xs) → All (λ x. All P (f x)) xs
All-unflat P f xs h = All-from_recursion (λ x. All P (f x)) xs (unflat P f xs h)
