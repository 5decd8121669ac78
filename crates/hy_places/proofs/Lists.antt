-- Lists of which each item gives some, and the first item that passes a test.
use Rattle.std.proofs.Common.{◌≡◌, inl, inr, ◌<◌, ◌≤◌, ◌+◌, ℕ, zero, suc, Bool, true, false, cond, ◌&&◌, List, [], ◌∷◌, ◌++◌, map, filter, length, get_or, take, drop, drop-cons, refl, ap, ap₂, sym, subst, ◌∙◌, arith, flat_map, add-one, length-append, if◌then◌else◌}
use Rattle.std.specs.List.{Contains, range_with_len}
use Rattle.std.proofs.lemmas.Grind.{flat_map-append}
use Rattle.std.proofs.lemmas.List.Elements.{filter-append}
use Rattle.std.proofs.lemmas.List.{get_or-append-add, get_or_append_left, take-append-drop}
use Rattle.hy_job.specs.Boxes.{place_where}
use Rattle.hy_job.proofs.Members.{by_cases, in_cases, in_none, no_bool}

-- ---- the first item that passes

module _ {X : Type 0} (p : X → Bool) where
  -- the place behind an item that does not pass
  pub past : (x : X) (xs : List X) → p x ≡ false → place_where p (x ∷ xs) ≡ place_where p xs + 1
  past x xs e = ap (λ (b : Bool). if b then 0 else place_where p xs + 1) e

  pub here : (x : X) (xs : List X) → p x ≡ true → place_where p (x ∷ xs) ≡ 0
  here x xs e = ap (λ (b : Bool). if b then 0 else place_where p xs + 1) e

  pub later : (x : X) (xs : List X) → p x ≡ false → place_where p (x ∷ xs) ≡ suc (place_where p xs)
  later x xs e = past x xs e ∙ add-one (place_where p xs)

  -- it passes
  pub place_found : (xs : List X) (d : X) → place_where p xs < length xs → p (get_or xs (place_where p xs) d) ≡ true
  place_found [] d lt = absurd (omega arith)
  place_found (x ∷ xs) d lt = by_cases (p x)
      (λ t. subst (λ (k : ℕ). p (get_or (x ∷ xs) k d) ≡ true) (sym (here x xs t)) t)
      (λ f.
      let z : place_where p (x ∷ xs) ≡ place_where p xs + 1 = past x xs f in
      let h = place_found xs d (omega (arith, z, lt)) in
      subst (λ (k : ℕ). p (get_or (x ∷ xs) k d) ≡ true) (sym (later x xs f)) h)

  -- where one passes, there is a first one
  pub place_low : (xs : List X) (y : X) → Contains xs y → p y ≡ true → place_where p xs < length xs
  place_low [] y m e = absurd (in_none y m)
  place_low (x ∷ xs) y m e = by_cases (p x)
      (λ t. let z : place_where p (x ∷ xs) ≡ 0 = here x xs t in omega (arith, z))
      (λ f.
      let z : place_where p (x ∷ xs) ≡ place_where p xs + 1 = past x xs f in
      elim (in_cases x y xs m) [ inl s ↦ absurd (no_bool (sym e ∙ (ap p (sym s) ∙ f))) | inr k ↦ (let h = place_low xs y k e in omega (arith, z, h)) ])

  -- and it is the first that is kept
  pub first_kept : (xs : List X) (d : X) → place_where p xs < length xs → (rest : List X) × (filter p xs ≡ get_or xs (place_where p xs) d ∷ rest)
  first_kept [] d lt = absurd (omega arith)
  first_kept (x ∷ xs) d lt = by_cases (p x)
      (λ t. (filter p xs, ap (λ (b : Bool). cond b (x ∷ filter p xs) (filter p xs)) t ∙ ap (λ (k : ℕ). get_or (x ∷ xs) k d ∷ filter p xs) (sym (here x xs t))))
      (λ f.
      let z : place_where p (x ∷ xs) ≡ place_where p xs + 1 = past x xs f in
      let h = first_kept xs d (omega (arith, z, lt)) in
      (h.0, ap (λ (b : Bool). cond b (x ∷ filter p xs) (filter p xs)) f ∙ (h.1 ∙ ap (λ (k : ℕ). get_or (x ∷ xs) k d ∷ h.0) (sym (later x xs f)))))

  pub none_kept : (xs : List X) → length xs ≤ place_where p xs → filter p xs ≡ []
  none_kept [] lt = refl
  none_kept (x ∷ xs) lt = by_cases (p x)
      (λ t. let z : place_where p (x ∷ xs) ≡ 0 = here x xs t in absurd (omega (arith, z, lt)))
      (λ f.
      let z : place_where p (x ∷ xs) ≡ place_where p xs + 1 = past x xs f in
      ap (λ (b : Bool). cond b (x ∷ filter p xs) (filter p xs)) f ∙ none_kept xs (omega (arith, z, lt)))

  -- what is kept before a place, then the item there, if it is kept, then the rest
  pub kept_split : (xs : List X) (k : ℕ) (x d : X) → k < length xs → get_or xs k d ≡ x → p x ≡ true → filter p xs ≡ filter p (take k xs) ++ x ∷ filter p (drop (suc k) xs)
  kept_split xs k x d lt at e =
      ap (filter p) (sym (take-append-drop k xs)) ∙ filter-append p (take k xs) (drop k xs)
      ∙ ap (λ (l : List X). filter p (take k xs) ++ l)
      (ap (filter p) (drop-cons xs k d lt ∙ ap (λ (y : X). y ∷ drop (suc k) xs) at) ∙ ap (λ (b : Bool). cond b (x ∷ filter p (drop (suc k) xs)) (filter p (drop (suc k) xs))) e)

-- what passes one test after another passes both
pub filter_twice : {X : Type 0} (r q : X → Bool) (xs : List X) → filter q (filter r xs) ≡ filter (λ x. r x && q x) xs
filter_twice r q [] = refl
filter_twice {X} r q (x ∷ xs) =
    let h = filter_twice r q xs in
    by_cases (r x)
    (λ t. rw t (ap (λ (l : List X). cond (q x) (x ∷ l) l) h))
    (λ f. rw f h)

-- ---- lists of lists

module _ {X Y : Type 0} (f : X → List Y) where
  -- what the item in the middle gives stands behind what those before it give
  pub flat_at : (before after : List X) (x : X) (j : ℕ) (d : Y) → j < length (f x) → get_or (flat_map f (before ++ x ∷ after)) (length (flat_map f before) + j) d ≡ get_or (f x) j d
  flat_at before after x j d lt =
      ap (λ (l : List Y). get_or l (length (flat_map f before) + j) d) (flat_map-append f before (x ∷ after))
      ∙ (get_or-append-add (flat_map f before) (f x ++ flat_map f after) j d ∙ get_or_append_left (f x) (flat_map f after) d j lt)

  pub flat_length : (before after : List X) (x : X) → length (flat_map f (before ++ x ∷ after)) ≡ length (flat_map f before) + (length (f x) + length (flat_map f after))
  flat_length before after x =
      ap (λ (l : List Y). length l) (flat_map-append f before (x ∷ after))
      ∙ (length-append (flat_map f before) (f x ++ flat_map f after) ∙ ap (λ (n : ℕ). length (flat_map f before) + n) (length-append (f x) (flat_map f after)))

pub one_each : {X Y : Type 0} (f : X → Y) (xs : List X) → flat_map (λ x. f x ∷ []) xs ≡ map f xs
one_each f [] = refl
one_each {X} {Y} f (x ∷ xs) = ap (λ (r : List Y). f x ∷ r) (one_each f xs)

pub map_twice : {X Y Z : Type 0} (f : Y → Z) (g : X → Y) (xs : List X) → map f (map g xs) ≡ map (λ x. f (g x)) xs
map_twice f g [] = refl
map_twice {X} {Y} {Z} f g (x ∷ xs) = ap (λ (r : List Z). f (g x) ∷ r) (map_twice f g xs)

-- where all but the first give nothing
pub none_above : {Y : Type 0} (f : ℕ → List Y) (a n : ℕ) → ((r : ℕ) → 0 < r → f r ≡ []) → 0 < a → flat_map f (range_with_len a n) ≡ []
none_above f a zero none lt = refl
none_above {Y} f a (suc n) none lt = ap (λ (l : List Y). l ++ flat_map f (range_with_len (a + 1) n)) (none a lt) ∙ none_above f (a + 1) n none (omega arith)

-- numbers that follow one another
pub map_range : (f : ℕ → ℕ) (b a n : ℕ) → ((k : ℕ) → k < n → f (b + k) ≡ a + k) → map f (range_with_len b n) ≡ range_with_len a n
map_range f b a zero h = refl
map_range f b a (suc n) h =
    let z : b ≡ b + 0 = omega arith in
    let y : a + 0 ≡ a = omega arith in
    ap₂ (λ (x : ℕ) (xs : List ℕ). x ∷ xs) (ap f z ∙ (h 0 (omega arith) ∙ y)) (map_range f (b + 1) (a + 1) n (λ k lt.
    let u : (b + 1) + k ≡ b + suc k = omega arith in
    let v : a + suc k ≡ (a + 1) + k = omega arith in
    ap f u ∙ (h (suc k) (omega arith) ∙ v)))
