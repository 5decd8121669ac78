-- Rows that are moved from part to part, or cut off, and all rows in another order.
use Rattle.std.proofs.Common.{◌≡◌, ◌<◌, ◌≤◌, ◌+◌, ◌%◌, ℕ, zero, suc, Bool, true, false, ◌&&◌, ◌||◌, cond, List, [], ◌∷◌, ◌++◌, map, filter, take, drop, zip, length, get_or, refl, ap, sym, subst, ◌∙◌, arith, append_assoc, mod-lt}
use Rattle.std.specs.Prelude.{nat_eq, nat_le, ◌⊎◌}
use Rattle.std.proofs.Common.{inl, inr, ⊎_elim}
use Rattle.std.specs.List.{AllZip, enumerate_from}
use Rattle.std.specs.List.Sorted.{IsPermutation}
use Rattle.std.proofs.lemmas.List.{append-nil, map-append, take-append-drop, take-append-le, drop-append-le, drop_all, length-drop, length-take-le, length-append}
use Rattle.std.proofs.lemmas.List.Elements.{filter-append}
use Rattle.std.proofs.lemmas.List.Sorted.{IsPermutation-refl, IsPermutation-sym, IsPermutation-trans, IsPermutation-cons, IsPermutation-append, IsPermutation-append_left, IsPermutation-append_right, IsPermutation-append_comm, IsPermutation-middle, IsPermutation-map, length_permutation}
use Rattle.al_plan.specs.declared.expr.Var.{Var}
use Rattle.al_plan.specs.Eval.{Env}
use Rattle.al_plan.proofs.Bools.{no, by_cases}
use Rattle.al_plan.proofs.Moves.{IsPermutation-same, map-AllZip}
use Rattle.al_phys.specs.Partition.{key_hash}
use Rattle.al_phys.specs.Parts.{Parts, HasEach, Interleaves, IsHashed, dealt, part_of, values_at}
use Rattle.al_phys.proofs.PartLaws.{interleaves_permutation}
use Rattle.al_choose.proofs.StandParts.{all_rows}

-- ---- items by their numbers

-- the pieces of these numbers, from the first on
abbrev Pieces : {X : Type 0} → (ℕ → List X) → ℕ → ℕ → List (List X)
Pieces f i zero = []
Pieces f i (suc n) = f i ∷ Pieces f (suc i) n

from_number : (i k : ℕ) → nat_le i k ≡ (nat_eq k i || nat_le (suc i) k)
from_number i k = grind arith

not_both : (i k : ℕ) → (nat_eq k i && nat_le (suc i) k) ≡ false
not_both i k = grind arith

too_great : (i k : ℕ) → k < i + 0 → nat_le i k ≡ false
too_great i k h = grind arith

from_zero : (k : ℕ) → nat_le 0 k ≡ true
from_zero k = grind arith

module _ {X : Type 0} where
  put : (a b c : Bool) → a ≡ (b || c) → (b && c) ≡ false → (x : X) (us vs ws : List X) → IsPermutation us (vs ++ ws) → IsPermutation (cond a (x ∷ us) us) (cond b (x ∷ vs) vs ++ cond c (x ∷ ws) ws)
  put a true true e f x us vs ws h = absurd (no f)
  put a true false e f x us vs ws h = subst (λ t. IsPermutation (cond t (x ∷ us) us) ((x ∷ vs) ++ ws)) (sym e) (IsPermutation-cons x us (vs ++ ws) h)
  put a false true e f x us vs ws h =
      subst (λ t. IsPermutation (cond t (x ∷ us) us) (vs ++ x ∷ ws)) (sym e) (IsPermutation-trans _ _ _ (IsPermutation-cons x us (vs ++ ws) h) (IsPermutation-sym _ _ (IsPermutation-middle vs x ws)))
  put a false false e f x us vs ws h = subst (λ t. IsPermutation (cond t (x ∷ us) us) (vs ++ ws)) (sym e) h

  -- the items that pass either of two tests
  filter_split : (p q r : X → Bool) → ((x : X) → p x ≡ (q x || r x)) → ((x : X) → (q x && r x) ≡ false) → (xs : List X) → IsPermutation (filter p xs) (filter q xs ++ filter r xs)
  filter_split p q r e f [] = IsPermutation-refl []
  filter_split p q r e f (x ∷ xs) = put (p x) (q x) (r x) (e x) (f x) x (filter p xs) (filter q xs) (filter r xs) (filter_split p q r e f xs)

  filter_nothing : (p : X → Bool) → ((x : X) → p x ≡ false) → (xs : List X) → filter p xs ≡ []
  filter_nothing p f [] = refl
  filter_nothing p f (x ∷ xs) = rw (f x, filter_nothing p f xs) refl

  filter_everything : (p : X → Bool) → ((x : X) → p x ≡ true) → (xs : List X) → filter p xs ≡ xs
  filter_everything p f [] = refl
  filter_everything p f (x ∷ xs) = rw (f x, filter_everything p f xs) refl

  abbrev WithKey : (X → ℕ) → List X → ℕ → List X
  WithKey key xs j = filter (λ x. nat_eq (key x) j) xs

  pieces_from : (key : X → ℕ) (xs : List X) (n i : ℕ) → ((x : X) → key x < i + n) → IsPermutation (filter (λ x. nat_le i (key x)) xs) (all_rows (Pieces (WithKey key xs) i n))
  pieces_from key xs zero i low = IsPermutation-same _ _ (filter_nothing (λ x. nat_le i (key x)) (λ x. too_great i (key x) (low x)) xs)
  pieces_from key xs (suc n) i low =
      let lower = λ (x : X). let h : key x < i + suc n = low x in let g : key x < suc i + n = omega arith in g in
      IsPermutation-trans _ _ _
      (filter_split (λ x. nat_le i (key x)) (λ x. nat_eq (key x) i) (λ x. nat_le (suc i) (key x)) (λ x. from_number i (key x)) (λ x. not_both i (key x)) xs)
      (IsPermutation-append_right (WithKey key xs i) _ _ (pieces_from key xs n (suc i) lower))

  -- all items, by numbers that are below n
  pieces : (key : X → ℕ) (xs : List X) (n : ℕ) → ((x : X) → key x < n) → IsPermutation xs (all_rows (Pieces (WithKey key xs) 0 n))
  pieces key xs n low =
      let lower = λ (x : X). let h : key x < n = low x in let g : key x < 0 + n = omega arith in g in
      subst (λ (ys : List X). IsPermutation ys (all_rows (Pieces (WithKey key xs) 0 n))) (filter_everything (λ x. nat_le 0 (key x)) (λ x. from_zero (key x)) xs) (pieces_from key xs n 0 lower)

  pieces_moved : (f : ℕ → List X) (parts : List (List X)) (i : ℕ) → ((j : ℕ) → j < length parts → IsPermutation (f (i + j)) (get_or parts j [])) → IsPermutation (all_rows (Pieces f i (length parts))) (all_rows parts)
  pieces_moved f [] i h = IsPermutation-refl []
  pieces_moved f (rows ∷ parts) i h =
      let here : i + 0 ≡ i = omega arith in
      let there = λ (j : ℕ). let e : i + suc j ≡ suc i + j = omega arith in e in
      IsPermutation-append (f i) rows _ (all_rows parts) (subst (λ k. IsPermutation (f k) rows) here (h zero (omega arith)))
      (pieces_moved f parts (suc i) (λ j lt. subst (λ k. IsPermutation (f k) (get_or parts j [])) (there j) (h (suc j) (omega arith))))

pieces_mapped : {X Y : Type 0} (g : X → Y) (f : ℕ → List X) (i n : ℕ) → all_rows (Pieces (λ j. map g (f j)) i n) ≡ map g (all_rows (Pieces f i n))
pieces_mapped g f i zero = refl
pieces_mapped g f i (suc n) = ap (λ (ys : List _). map g (f i) ++ ys) (pieces_mapped g f (suc i) n) ∙ sym (map-append g (f i) (all_rows (Pieces f (suc i) n)))

-- parts that have, each, the piece of their number
each_piece : (n : ℕ) (f : ℕ → List Env) (parts : Parts) → HasEach n (λ j rows. IsPermutation (f j) rows) parts → IsPermutation (all_rows (Pieces f 0 n)) (all_rows parts)
each_piece n f parts h =
    let zero_on = λ (j : ℕ). let e : j ≡ 0 + j = omega arith in e in
    subst (λ (m : ℕ). IsPermutation (all_rows (Pieces f 0 m)) (all_rows parts)) h.count
    (pieces_moved f parts 0 (λ j lt. subst (λ k. IsPermutation (f k) (get_or parts j [])) (zero_on j) (h.each j (subst (λ (m : ℕ). j < m) h.count lt))))

-- ---- scans and exchanges

enumerated : (i : ℕ) (rows : List Env) → map (λ e. e.1) (enumerate_from i rows) ≡ rows
enumerated i [] = refl
enumerated i (r ∷ rows) = ap (λ (xs : List Env). r ∷ xs) (enumerated (i + 1) rows)

-- rows that are dealt out are all there
pub dealt_rows : (n : ℕ) (rows : List Env) (parts : Parts) → 0 < n → HasEach n (λ j out. out ≡ dealt n j rows) parts → IsPermutation rows (all_rows parts)
dealt_rows n rows parts some h =
    let es = enumerate_from 0 rows in
    let key = λ (e : ℕ × Env). e.0 % n in
    let value = λ (e : ℕ × Env). e.1 in
    let moved = IsPermutation-map value es (all_rows (Pieces (WithKey key es) 0 n)) (pieces key es n (λ e. mod-lt e.0 {m = n} some)) in
    let begun = subst (λ (xs : List Env). IsPermutation xs (map value (all_rows (Pieces (WithKey key es) 0 n)))) (enumerated 0 rows) moved in
    let cut = subst (λ (xs : List Env). IsPermutation rows xs) (sym (pieces_mapped value (WithKey key es) 0 n)) begun in
    IsPermutation-trans _ _ _ cut (each_piece n (λ j. map value (WithKey key es j)) parts (record { count = h.count; each = λ j lt. IsPermutation-same _ _ (sym (h.each j lt)) }))

filtered_rows : (test : Env → Bool) (input : Parts) → all_rows (map (filter test) input) ≡ filter test (all_rows input)
filtered_rows test [] = refl
filtered_rows test (rows ∷ input) = ap (λ (xs : List Env). filter test rows ++ xs) (filtered_rows test input) ∙ sym (filter-append test rows (all_rows input))

-- rows that are moved by their hash are all there
pub hashed_rows : (n : ℕ) (vars : List Var) (input parts : Parts) → 0 < n → IsHashed n vars input parts → IsPermutation (all_rows input) (all_rows parts)
hashed_rows n vars input parts some h =
    let key = part_of n vars in
    IsPermutation-trans _ _ _ (pieces key (all_rows input) n (λ r. mod-lt (key_hash 0 (values_at vars r)) {m = n} some))
    (each_piece n (WithKey key (all_rows input)) parts
    (record {
      count = h.count;
      each = λ j lt. subst (λ (xs : List Env). IsPermutation xs (get_or parts j [])) (filtered_rows (λ r. nat_eq (key r) j) input) (interleaves_permutation (map (filter (λ r. nat_eq (key r) j)) input) (get_or parts j []) (h.each j lt));
    }))

-- ---- unions

crossed : {X : Type 0} (a b c d : List X) → IsPermutation ((a ++ b) ++ (c ++ d)) ((a ++ c) ++ (b ++ d))
crossed a b c d =
    subst (λ (xs : List _). IsPermutation xs ((a ++ c) ++ (b ++ d))) (sym (append_assoc a b (c ++ d)))
    (subst (λ (xs : List _). IsPermutation (a ++ (b ++ (c ++ d))) xs) (sym (append_assoc a c (b ++ d)))
    (IsPermutation-append_right a _ _ (subst (λ (xs : List _). IsPermutation xs (c ++ (b ++ d))) (append_assoc b c d) (subst (λ (xs : List _). IsPermutation ((b ++ c) ++ d) xs) (append_assoc c b d) (IsPermutation-append_left d _ _ (IsPermutation-append_comm b c))))))

-- both sides of each part, interleaved
pub union_rows : (f g : Env → Env) (left right parts : Parts) → length left ≡ length right → AllZip (λ (both : List Env × List Env) out. Interleaves (map f both.0 ∷ map g both.1 ∷ []) out) (zip left right) parts
    → IsPermutation (map f (all_rows left) ++ map g (all_rows right)) (all_rows parts)
union_rows f g [] [] [] e z = IsPermutation-refl []
union_rows f g [] [] (out ∷ parts) e z = absurd z
union_rows f g [] (r ∷ right) parts e z = absurd (omega arith)
union_rows f g (l ∷ left) [] parts e z = absurd (omega arith)
union_rows f g (l ∷ left) (r ∷ right) [] e z = absurd z
union_rows f g (l ∷ left) (r ∷ right) (out ∷ parts) e z =
    let here = interleaves_permutation (map f l ∷ map g r ∷ []) out z.0 in
    let own = subst (λ (xs : List Env). IsPermutation (map f l ++ xs) out) (append-nil (map g r)) here in
    let rest = union_rows f g left right parts (omega arith) z.1 in
    subst (λ (xs : List Env). IsPermutation (xs ++ map g (r ++ all_rows right)) (out ++ all_rows parts)) (sym (map-append f l (all_rows left)))
    (subst (λ (xs : List Env). IsPermutation ((map f l ++ map f (all_rows left)) ++ xs) (out ++ all_rows parts)) (sym (map-append g r (all_rows right)))
    (IsPermutation-trans _ _ _ (crossed (map f l) (map f (all_rows left)) (map g r) (map g (all_rows right))) (IsPermutation-append _ _ _ _ own rest)))

-- ---- limits

-- the first rows of each part, and those that are cut off
cut_rows : (c : ℕ) (input : Parts) → IsPermutation (all_rows input) (all_rows (map (take c) input) ++ all_rows (map (drop c) input))
cut_rows c [] = IsPermutation-refl []
cut_rows c (rows ∷ input) =
    IsPermutation-trans _ _ _
    (subst (λ (xs : List Env). IsPermutation (xs ++ all_rows input) ((take c rows ++ drop c rows) ++ (all_rows (map (take c) input) ++ all_rows (map (drop c) input)))) (take-append-drop c rows) (IsPermutation-append_right (take c rows ++ drop c rows) _ _ (cut_rows c input)))
    (crossed (take c rows) (drop c rows) (all_rows (map (take c) input)) (all_rows (map (drop c) input)))

at_most : (a b : ℕ) → nat_le a b ≡ true → a ≤ b
at_most a b h = grind arith

more : (a b : ℕ) → nat_le a b ≡ false → b ≤ a
more a b h = grind arith

-- nothing is cut off, or as many rows are left as a part may have
cut_or_many : (c : ℕ) (input : Parts) → (all_rows (map (drop c) input) ≡ []) ⊎ (c ≤ length (all_rows (map (take c) input)))
cut_or_many c [] = inl refl
cut_or_many c (rows ∷ input) =
    by_cases (nat_le (length rows) c)
    (λ few. ⊎_elim
    (λ (none : all_rows (map (drop c) input) ≡ []). inl (ap (λ (xs : List Env). xs ++ all_rows (map (drop c) input)) (drop_all c rows (at_most (length rows) c few)) ∙ none))
    (λ (many : c ≤ length (all_rows (map (take c) input))). inr (later many))
    (cut_or_many c input))
    (λ many. inr (here (more (length rows) c many)))
  where
    later : c ≤ length (all_rows (map (take c) input)) → c ≤ length (take c rows ++ all_rows (map (take c) input))
    later h = omega (arith, length-append (take c rows) (all_rows (map (take c) input)))

    here : c ≤ length rows → c ≤ length (take c rows ++ all_rows (map (take c) input))
    here h = omega (arith, length-append (take c rows) (all_rows (map (take c) input)), length-take-le c rows h)

-- rows behind the first m + k are not looked at
limit_front : (m k : ℕ) (xs ys : List Env) → (ys ≡ []) ⊎ (m + k ≤ length xs) → take m (drop k (xs ++ ys)) ≡ take m (drop k xs)
limit_front m k xs ys h =
    ⊎_elim
    (λ (none : ys ≡ []). ap (λ (zs : List Env). take m (drop k (xs ++ zs))) none ∙ ap (λ (zs : List Env). take m (drop k zs)) (append-nil xs))
    (λ (many : m + k ≤ length xs). ap (take m) (drop-append-le k xs ys (omega arith)) ∙ take-append-le m (drop k xs) ys (omega (arith, length-drop k xs)))
    h

-- a limit over the first m + k rows of each part is one over all rows, in some order
pub limit_rows : (m k : ℕ) (input parts : Parts) (zs : List Env) → AllZip (λ rows out. out ≡ take (m + k) rows) input parts → Interleaves parts zs
    → (all : List Env) × IsPermutation (all_rows input) all × (take m (drop k zs) ≡ take m (drop k all))
limit_rows m k input parts zs z h =
    let c = m + k in
    let off = all_rows (map (drop c) input) in
    let same = map-AllZip (take c) input parts z in
    let moved = subst (λ (ps : Parts). IsPermutation (all_rows ps) zs) same (interleaves_permutation parts zs h) in
    let enough : (off ≡ []) ⊎ (c ≤ length zs) = ⊎_elim (λ (e : off ≡ []). inl e) (λ (e : c ≤ length (all_rows (map (take c) input))). inr (long zs (length_permutation _ _ moved) e)) (cut_or_many c input) in (
      zs ++ off,
      IsPermutation-trans _ _ _ (cut_rows c input) (IsPermutation-append_left off _ _ moved),
      sym (limit_front m k zs off enough),
    )
  where
    long : (zs : List Env) → length zs ≡ length (all_rows (map (take (m + k)) input)) → m + k ≤ length (all_rows (map (take (m + k)) input)) → m + k ≤ length zs
    long zs e h = omega arith
