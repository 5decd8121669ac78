-- The number of a task by the place of its activity.
use Rattle.std.proofs.Common.{◌≡◌, ◌≢◌, ◌⊎◌, ◌<◌, ◌≤◌, ◌+◌, ◌*◌, ℕ, zero, suc, nat_eq, Bool, true, false, true≢false, ◌&&◌, List, [], ◌∷◌, ◌++◌, map, length, get_or, refl, sym, ap, ◌∙◌, inl, inr, arith, flat_map, eq-eqb, ne_eqb, Contains, All, suc-mul, zero-mul, add-one, if◌then◌else◌}
use Rattle.std.specs.List.Sorted.{IsStrictlyIncreasing}
use Rattle.std.specs.List.{range_with_len}
use Rattle.hy_job.specs.Boxes.{place_where}
use Rattle.hy_job.proofs.Boxes.{is_nat}
use Rattle.hy_places.specs.Finding.{place_of}
use Rattle.hy_connect.proofs.Spreading.{same_or_not}

abbrev is_task : ℕ → ℕ → ℕ × ℕ → Bool
is_task a j t = nat_eq t.0 a && nat_eq t.1 j

-- the place behind an item that does not pass
pub past : {A : Type 0} (p : A → Bool) (x : A) (xs : List A) → p x ≡ false → place_where p (x ∷ xs) ≡ place_where p xs + 1
past p x xs e = ap (λ (b : Bool). if b then 0 else place_where p xs + 1) e

pub here : {A : Type 0} (p : A → Bool) (x : A) (xs : List A) → p x ≡ true → place_where p (x ∷ xs) ≡ 0
here p x xs e = ap (λ (b : Bool). if b then 0 else place_where p xs + 1) e

abbrev row : ℕ → ℕ → ℕ → List (ℕ × ℕ)
row b s n = map (λ i. (b, i)) (range_with_len s n)

-- the tasks of another activity
other_row : (a j b s n : ℕ) (rest : List (ℕ × ℕ)) → nat_eq b a ≡ false → place_where (is_task a j) (row b s n ++ rest) ≡ n + place_where (is_task a j) rest
other_row a j b s zero rest e = omega arith
other_row a j b s (suc n) rest e =
    let h = other_row a j b (s + 1) n rest e in
    let step : place_where (is_task a j) (row b s (suc n) ++ rest) ≡ place_where (is_task a j) (row b (s + 1) n ++ rest) + 1 = past (is_task a j) (b, s) (row b (s + 1) n ++ rest) (ap (λ (c : Bool). c && nat_eq s j) e) in
    omega arith

-- the tasks of this one
own_step : (a j s n : ℕ) (rest : List (ℕ × ℕ)) → s ≤ j → (s ≡ j) ⊎ (s ≢ j) → (s + 1 ≤ j → place_where (is_task a j) (row a (s + 1) n ++ rest) + (s + 1) ≡ j) → place_where (is_task a j) (row a s (suc n) ++ rest) + s ≡ j
own_step a j s n rest low (inl e) more =
    let z : place_where (is_task a j) (row a s (suc n) ++ rest) ≡ 0 = here (is_task a j) (a, s) (row a (s + 1) n ++ rest) (ap (λ (c : Bool). c && nat_eq s j) (eq-eqb a a refl) ∙ eq-eqb s j e) in
    omega arith
own_step a j s n rest low (inr off) more =
    let h = more (omega arith) in
    let step : place_where (is_task a j) (row a s (suc n) ++ rest) ≡ place_where (is_task a j) (row a (s + 1) n ++ rest) + 1 = past (is_task a j) (a, s) (row a (s + 1) n ++ rest) (ap (λ (c : Bool). c && nat_eq s j) (eq-eqb a a refl) ∙ ne_eqb s j off) in
    omega arith

own_row : (a j s n : ℕ) (rest : List (ℕ × ℕ)) → s ≤ j → j < s + n → place_where (is_task a j) (row a s n ++ rest) + s ≡ j
own_row a j s zero rest low high = absurd (omega arith)
own_row a j s (suc n) rest low high = own_step a j s n rest low (same_or_not s j) (λ le. own_row a j (s + 1) n rest le (omega arith))

in_rest : (b a : ℕ) (bs : List ℕ) (k : ℕ) → nat_eq b a ≡ false → k < length (b ∷ bs) → get_or (b ∷ bs) k a ≡ a → Contains bs a
in_rest b a bs zero e low is = absurd (true≢false (sym (eq-eqb b a is) ∙ e))
in_rest b a bs (suc k) e low is = (k, omega arith, is)

abbrev tasks : ℕ → List ℕ → List (ℕ × ℕ)
tasks n activities = flat_map (λ b. map (λ i. (b, i)) (range_with_len 0 n)) activities

place_step : (b : ℕ) (bs : List ℕ) (n a j : ℕ) (t : Bool) → nat_eq b a ≡ t → j < n → (nat_eq b a ≡ false → place_where (is_task a j) (tasks n bs) ≡ place_of bs a * n + j) → place_where (is_task a j) (tasks n (b ∷ bs)) ≡ place_of (b ∷ bs) a * n + j
place_step b bs n a j true e low more =
    let z : place_of (b ∷ bs) a ≡ 0 = here (λ (c : ℕ). nat_eq c a) b bs e in
    let h : place_where (is_task a j) (row b 0 n ++ tasks n bs) + 0 ≡ j = ap (λ (c : ℕ). place_where (is_task a j) (row c 0 n ++ tasks n bs) + 0) (is_nat b a e) ∙ own_row a j 0 n (tasks n bs) (omega arith) (omega arith) in
    let m : place_of (b ∷ bs) a * n ≡ 0 = ap (λ (k : ℕ). k * n) z ∙ zero-mul n in
    omega arith
place_step b bs n a j false e low more =
    let z : place_of (b ∷ bs) a ≡ place_of bs a + 1 = past (λ (c : ℕ). nat_eq c a) b bs e in
    let h = other_row a j b 0 n (tasks n bs) e in
    let r = more e in
    let m : place_of (b ∷ bs) a * n ≡ place_of bs a * n + n = ap (λ (k : ℕ). k * n) (z ∙ add-one (place_of bs a)) ∙ suc-mul (place_of bs a) n in
    omega arith

-- the number of a task of an activity of the stage
pub place_row : (activities : List ℕ) (n a j : ℕ) → Contains activities a → j < n → place_where (is_task a j) (tasks n activities) ≡ place_of activities a * n + j
place_row [] n a j c low = let l = c.1 in absurd (omega arith)
place_row (b ∷ bs) n a j c low = place_step b bs n a j (nat_eq b a) refl low (λ e. place_row bs n a j (in_rest b a bs c.0 e c.1 c.2) low)

-- ---- how many activities a stage has

rising_at : (xs : List ℕ) → IsStrictlyIncreasing xs → (k : ℕ) → k < length xs → k ≤ get_or xs k 0
rising_at xs up zero low = omega arith
rising_at xs up (suc k) low =
    let h = rising_at xs up k (omega arith) in
    let s : get_or xs k 0 < get_or xs (k + 1) 0 = up k (omega arith) in
    let e : get_or xs (k + 1) 0 ≡ get_or xs (suc k) 0 = ap (λ (j : ℕ). get_or xs j 0) (add-one k) in
    omega arith

few_at : (xs : List ℕ) (n m : ℕ) → IsStrictlyIncreasing xs → All (λ x. x < n) xs → length xs ≡ m → m ≤ n
few_at xs n zero up within e = omega arith
few_at xs n (suc m) up within e =
    let h = rising_at xs up m (omega arith) in
    let w : get_or xs m 0 < n = within m 0 (omega arith) in
    omega arith

pub few_activities : (xs : List ℕ) (n : ℕ) → IsStrictlyIncreasing xs → All (λ x. x < n) xs → length xs ≤ n
few_activities xs n up within = few_at xs n (length xs) up within refl
