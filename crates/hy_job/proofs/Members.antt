-- What lists contain, and what tests over lists find there.
use Rattle.std.proofs.Common.{◌≡◌, ◌⊎◌, inl, inr, ◌<◌, ◌≤◌, ◌+◌, ℕ, zero, suc, Bool, true, false, nat_eq, List, [], ◌∷◌, ◌++◌, length, filter, refl, ap, sym, subst, ◌∙◌, arith, get_or}
use Rattle.std.specs.List.{list_all, list_any, AllPairs, Contains, range_with_len}

pub no_bool : true ≡ false → ⊥
no_bool e = cc

pub by_cases : (b : Bool) {P : Type 0} → (b ≡ true → P) → (b ≡ false → P) → P
by_cases true f g = f refl
by_cases false f g = g refl

pub in_here : {X : Type 0} (x : X) (xs : List X) → Contains (x ∷ xs) x
in_here x xs = (0, omega arith, refl)

pub in_there : {X : Type 0} (x y : X) (xs : List X) → Contains xs y → Contains (x ∷ xs) y
in_there x y xs h = (suc h.0, omega (arith, h.1), h.2)

pub in_none : {X : Type 0} (x : X) → Contains [] x → ⊥
in_none x h = omega (arith, h.1)

pub in_cases : {X : Type 0} (x y : X) (xs : List X) → Contains (x ∷ xs) y → (x ≡ y) ⊎ Contains xs y
in_cases x y xs h = at h.0 h.1 h.2
  where
    at : (k : ℕ) → k < length (x ∷ xs) → get_or (x ∷ xs) k y ≡ y → (x ≡ y) ⊎ Contains xs y
    at zero lt e = inl e
    at (suc k) lt e = inr (k, omega arith, e)

module _ {X : Type 0} (p : X → Bool) where
  pub in_filter : (xs : List X) (y : X) → p y ≡ true → Contains xs y → Contains (filter p xs) y
  in_filter [] y e h = h
  in_filter (x ∷ xs) y e h = by_cases (p x)
      (λ t. rw t (elim (in_cases x y xs h) [ inl s ↦ subst (λ z. Contains (z ∷ filter p xs) y) (sym s) (in_here y (filter p xs)) | inr m ↦ in_there x y (filter p xs) (in_filter xs y e m) ]))
      (λ f. rw f (elim (in_cases x y xs h) [ inl s ↦ absurd (no_bool (sym e ∙ (ap p (sym s) ∙ f))) | inr m ↦ in_filter xs y e m ]))

  pub from_filter : (xs : List X) (y : X) → Contains (filter p xs) y → Contains xs y × (p y ≡ true)
  from_filter [] y h = absurd (in_none y h)
  from_filter (x ∷ xs) y h = by_cases (p x)
      (λ t. let m : Contains (x ∷ filter p xs) y = rw t at h in
      elim (in_cases x y (filter p xs) m) [ inl s ↦ (subst (λ z. Contains (z ∷ xs) y) (sym s) (in_here y xs), ap p (sym s) ∙ t) | inr k ↦ let q = from_filter xs y k in (in_there x y xs q.0, q.1) ])
      (λ f. let m : Contains (filter p xs) y = rw f at h in let q = from_filter xs y m in (in_there x y xs q.0, q.1))

  -- where not all pass, one does not
  pub one_fails : (xs : List X) → list_all p xs ≡ false → (x : X) × Contains xs x × (p x ≡ false)
  one_fails [] e = absurd (no_bool e)
  one_fails (x ∷ xs) e = by_cases (p x)
      (λ t. let r : list_all p xs ≡ false = rw t at e in let q = one_fails xs r in (q.0, in_there x q.0 xs q.1, q.2))
      (λ f. (x, in_here x xs, f))

  pub all_pass : (xs : List X) → ((x : X) → Contains xs x → p x ≡ true) → list_all p xs ≡ true
  all_pass [] h = refl
  all_pass (x ∷ xs) h = rw (h x (in_here x xs)) (all_pass xs (λ y m. h y (in_there x y xs m)))

  pub one_passes : (xs : List X) → list_all p xs ≡ true → (x : X) → Contains xs x → p x ≡ true
  one_passes [] e x h = absurd (in_none x h)
  one_passes (y ∷ ys) e x h = by_cases (p y)
      (λ t. let r : list_all p ys ≡ true = rw t at e in elim (in_cases y x ys h) [ inl s ↦ ap p (sym s) ∙ t | inr m ↦ one_passes ys r x m ])
      (λ f. let r : false ≡ true = rw f at e in absurd (no_bool (sym r)))

pub nat_same : (a : ℕ) → nat_eq a a ≡ true
nat_same a = grind arith

pub any_from : (xs : List ℕ) (y : ℕ) → list_any (λ a. nat_eq a y) xs ≡ true → Contains xs y
any_from [] y e = absurd (no_bool (sym e))
any_from (x ∷ xs) y e = by_cases (nat_eq x y)
    (λ t. let s : x ≡ y = grind arith in subst (λ z. Contains (z ∷ xs) y) (sym s) (in_here y xs))
    (λ f. let r : list_any (λ a. nat_eq a y) xs ≡ true = rw f at e in in_there x y xs (any_from xs y r))

pub any_to : (xs : List ℕ) (y : ℕ) → Contains xs y → list_any (λ a. nat_eq a y) xs ≡ true
any_to [] y h = absurd (in_none y h)
any_to (x ∷ xs) y h = by_cases (nat_eq x y)
    (λ t. rw t refl)
    (λ f. rw f (elim (in_cases x y xs h) [ inl s ↦ absurd (no_bool (sym (nat_same y) ∙ (ap (λ z. nat_eq z y) (sym s) ∙ f))) | inr m ↦ any_to xs y m ]))

-- a list of rising numbers, its first one and the others
pub rising_rest : (x : ℕ) (xs : List ℕ) → AllPairs (λ a b. a < b) (x ∷ xs) → AllPairs (λ a b. a < b) xs
rising_rest x xs h = λ i j d lt within. h (suc i) (suc j) d (omega arith) (omega arith)

pub rising_first : (x y : ℕ) (xs : List ℕ) → AllPairs (λ a b. a < b) (x ∷ xs) → Contains (x ∷ xs) y → x ≤ y
rising_first x y xs h m = elim (in_cases x y xs m) [ inl s ↦ omega (arith, s) | inr k ↦ (let l : x < get_or xs k.0 y = h 0 (suc k.0) y (omega arith) (omega (arith, k.1)) in omega (arith, l, k.2)) ]

pub least_first : (xs : List ℕ) (y : ℕ) → AllPairs (λ a b. a < b) xs → Contains xs y → get_or xs 0 0 ≤ y
least_first [] y h m = absurd (in_none y m)
least_first (x ∷ xs) y h m = rising_first x y xs h m

-- one number more
pub range_more : (a n : ℕ) → range_with_len a (n + 1) ≡ range_with_len a n ++ (a + n) ∷ []
range_more a zero = let e : a ≡ a + 0 = omega arith in ap (λ x. x ∷ []) e
range_more a (suc n) =
    let e : suc n + 1 ≡ suc (n + 1) = omega arith in
    let l : (a + 1) + n ≡ a + suc n = omega arith in
    ap (range_with_len a) e ∙ ap (λ xs. a ∷ xs) (range_more (a + 1) n ∙ ap (λ x. range_with_len (a + 1) n ++ x ∷ []) l)

pub range_below : (n : ℕ) → range_with_len 0 (n + 1) ≡ range_with_len 0 n ++ n ∷ []
range_below n = let e : 0 + n ≡ n = omega arith in range_more 0 n ∙ ap (λ x. range_with_len 0 n ++ x ∷ []) e
