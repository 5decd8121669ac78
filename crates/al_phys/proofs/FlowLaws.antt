-- Rows that come of other rows: with the same values at some variables, and in the same order.
use Rattle.std.proofs.Common.{◌≡◌, ◌+◌, ℕ, zero, suc, Bool, true, false, cond, List, [], ◌∷◌, ◌++◌, map, filter, flat_map, take, drop, get_or, refl, ap, sym, subst, ◌∙◌, arith, Less, Equal, Greater, Ordering, is_lt}
use Rattle.std.specs.Prelude.{if◌then◌else◌}
use Rattle.std.specs.List.{All, AllByRecursion, AllZip, Contains}
use Rattle.std.specs.List.Sorted.{IsPermutation, IsSorted}
use Rattle.std.specs.Cmp.{IsStrictWeakOrder}
use Rattle.std.specs.Ordering.{ordering_then}
use Rattle.std.proofs.lemmas.List.Elements.{All-nil, All-from_recursion, All-weaker, All-append, Contains-append_right, Contains-get_or}
use Rattle.std.proofs.lemmas.List.Sorted.{ranks_by, sorted_far, Contains-permutation, IsPermutation-sym}
use Rattle.al_value.specs.Value.{value_cmp}
use Rattle.al_value.specs.declared.value.Value.{Value}
use Rattle.al_plan.specs.declared.expr.Var.{Var}
use Rattle.al_plan.specs.declared.plan.OrderKey.{OrderKey}
use Rattle.al_plan.specs.Eval.{Env}
use Rattle.al_plan.specs.Allows.{keys_cmp, directed, is_among}
use Rattle.al_plan.proofs.Bools.{by_cases}
use Rattle.al_plan.proofs.RowLaws.{keys_cmp_total}
use Rattle.al_plan.proofs.Moves.{Apart, apart_from_pairs, pairs_from_apart}
use Rattle.al_phys.specs.Parts.{values_at}
use Rattle.al_phys.specs.Properties.{kept_keys}
use Rattle.al_phys.specs.Placed.{vars_of}

-- the second row has at its variables what the first has at these
abbrev pub IsAlike : List Var → List Var → Env → Env → Type 0
IsAlike vs ws r o = values_at vs o ≡ values_at ws r

-- each row of the second list is alike to a row of the first
abbrev pub Comes : List Var → List Var → List Env → List Env → Type 0
Comes vs ws rows out = All (λ o. (r : Env) × Contains rows r × IsAlike vs ws r o) out

-- each row in turn gives some rows that are alike to it
abbrev pub Follows : List Var → List Env → List Env → Type 0
Follows vs [] out = out ≡ []
Follows vs (r ∷ rows) out = (piece : List Env) × (rest : List Env) × (out ≡ piece ++ rest) × AllByRecursion (IsAlike vs vs r) piece × Follows vs rows rest

-- ---- rows that follow

module _ (vs : List Var) where
  pub follows-map : (f : Env → Env) → ((r : Env) → IsAlike vs vs r (f r)) → (rows : List Env) → Follows vs rows (map f rows)
  follows-map f h [] = refl
  follows-map f h (r ∷ rows) = (f r ∷ [], map f rows, refl, (h r, tt), follows-map f h rows)

  pub follows-flat : (f : Env → List Env) → ((r : Env) → AllByRecursion (IsAlike vs vs r) (f r)) → (rows : List Env) → Follows vs rows (flat_map f rows)
  follows-flat f h [] = refl
  follows-flat f h (r ∷ rows) = (f r, flat_map f rows, refl, h r, follows-flat f h rows)

  pub follows-zip : (R : Env → Env → Type 0) → ((r o : Env) → R r o → IsAlike vs vs r o) → (rows out : List Env) → AllZip R rows out → Follows vs rows out
  follows-zip R h [] [] zip = refl
  follows-zip R h [] (o ∷ out) zip = absurd zip
  follows-zip R h (r ∷ rows) [] zip = absurd zip
  follows-zip R h (r ∷ rows) (o ∷ out) zip = (o ∷ [], out, refl, (h r o zip.0, tt), follows-zip R h rows out zip.1)

  pub follows-filter : (test : Env → Bool) (rows : List Env) → Follows vs rows (filter test rows)
  follows-filter test [] = refl
  follows-filter test (r ∷ rows) = go (test r) (follows-filter test rows)
    where
      go : (b : Bool) → Follows vs rows (filter test rows) → Follows vs (r ∷ rows) (cond b (r ∷ filter test rows) (filter test rows))
      go true rest = (r ∷ [], filter test rows, refl, (refl, tt), rest)
      go false rest = ([], filter test rows, refl, tt, rest)

  pub follows-none : (rows : List Env) → Follows vs rows []
  follows-none [] = refl
  follows-none (r ∷ rows) = ([], [], refl, tt, follows-none rows)

  pub follows-cut : (m k : ℕ) (rows : List Env) → Follows vs rows (take m (drop k rows))
  follows-cut zero zero rows = follows-none rows
  follows-cut (suc m) zero [] = refl
  follows-cut (suc m) zero (r ∷ rows) = (r ∷ [], take m rows, refl, (refl, tt), follows-cut m zero rows)
  follows-cut zero (suc k) [] = refl
  follows-cut (suc m) (suc k) [] = refl
  follows-cut m (suc k) (r ∷ rows) = ([], take m (drop k rows), refl, tt, follows-cut m k rows)

-- ---- rows that come of others

contains_more : (r : Env) (rows : List Env) (s : Env) → Contains rows s → Contains (r ∷ rows) s
contains_more r rows s h = Contains-append_right (r ∷ []) rows s h

contains_first : (r : Env) (rows : List Env) → Contains (r ∷ rows) r
contains_first r rows = (zero, omega arith, refl)

pub comes-follows : (vs : List Var) (rows out : List Env) → Follows vs rows out → Comes vs vs rows out
comes-follows vs [] out h = subst (Comes vs vs []) (sym h) (All-nil _)
comes-follows vs (r ∷ rows) out h =
    let Q = λ (o : Env). (s : Env) × Contains (r ∷ rows) s × IsAlike vs vs s o in
    let piece : All Q h.0 = All-weaker (IsAlike vs vs r) Q (λ o e. (r, contains_first r rows, e)) h.0 (All-from_recursion (IsAlike vs vs r) h.0 h.3) in
    let rest : All Q h.1 = All-weaker (λ o. (s : Env) × Contains rows s × IsAlike vs vs s o) Q (λ o c. (c.0, contains_more r rows c.0 c.1, c.2)) h.1 (comes-follows vs rows h.1 h.4) in
    subst (All Q) (sym h.2) (All-append Q h.0 h.1 piece rest)

pub comes-within : (vs : List Var) (rows out : List Env) → All (Contains rows) out → Comes vs vs rows out
comes-within vs rows out h = All-weaker (Contains rows) (λ o. (r : Env) × Contains rows r × IsAlike vs vs r o) (λ o c. (o, c, refl)) out h

pub comes-permutation : (vs : List Var) (rows out : List Env) → IsPermutation rows out → Comes vs vs rows out
comes-permutation vs rows out h = λ k d lt. (get_or out k d, Contains-permutation out rows (get_or out k d) (IsPermutation-sym rows out h) (Contains-get_or out k d lt), refl)

-- what comes of no rows is no rows
pub comes_none : (vs ws : List Var) (out : List Env) → Comes vs ws [] out → out ≡ []
comes_none vs ws [] h = refl
comes_none vs ws (o ∷ out) h = let c = h 0 o (omega arith) in absurd (omega (arith, c.1.1))

-- ---- order

-- rows that are alike compare alike
pub cmp_alike : (keys : List OrderKey) (r s a b : Env) → IsAlike (vars_of keys) (vars_of keys) r a → IsAlike (vars_of keys) (vars_of keys) s b → keys_cmp keys a b ≡ keys_cmp keys r s
cmp_alike [] r s a b e f = refl
cmp_alike (k ∷ keys) r s a b e f =
    λ i. ordering_then (directed k.descending (value_cmp (head (r k.var.name) (e i)) (head (s k.var.name) (f i)))) (cmp_alike keys r s a b (ap tail e) (ap tail f) i)
  where
    head : Value → List Value → Value
    head d [] = d
    head d (x ∷ xs) = x

    tail : List Value → List Value
    tail [] = []
    tail (x ∷ xs) = xs

-- the first row is not above the second
abbrev IsUpTo : List OrderKey → Env → Env → Type 0
IsUpTo keys a b = is_lt (keys_cmp keys b a) ≡ false

abbrev Rises : List OrderKey → List Env → Type 0
Rises keys rows = Apart (IsUpTo keys) rows

order_of_keys : (keys : List OrderKey) → IsStrictWeakOrder (λ (a b : Env). is_lt (keys_cmp keys a b))
order_of_keys keys = ranks_by (keys_cmp_total keys) (λ (r : Env). r)

pub rises : (keys : List OrderKey) (rows : List Env) → IsSorted (keys_cmp keys) rows → Rises keys rows
rises keys rows h = apart_from_pairs (IsUpTo keys) rows (λ i j d lt high. sorted_far (λ (a b : Env). is_lt (keys_cmp keys a b)) (order_of_keys keys) rows h i j d (omega arith) high)

pub sorted : (keys : List OrderKey) (rows : List Env) → Rises keys rows → IsSorted (keys_cmp keys) rows
sorted keys rows h = λ k d low high. pairs_from_apart (IsUpTo keys) rows h k (k + 1) d (omega arith) high

cmp_itself : (keys : List OrderKey) (r : Env) → is_lt (keys_cmp keys r r) ≡ false
cmp_itself keys r = by_cases (is_lt (keys_cmp keys r r)) (λ t. (order_of_keys keys).one_way r r t) (λ f. f)

pub all_both : {X : Type 0} (P : X → Type 0) (xs ys : List X) → AllByRecursion P xs → AllByRecursion P ys → AllByRecursion P (xs ++ ys)
all_both P [] ys h g = g
all_both P (x ∷ xs) ys h g = (h.0, all_both P xs ys h.1 g)

all_weaker : {X : Type 0} (P Q : X → Type 0) → ((x : X) → P x → Q x) → (xs : List X) → AllByRecursion P xs → AllByRecursion Q xs
all_weaker P Q f [] h = tt
all_weaker P Q f (x ∷ xs) h = (f x h.0, all_weaker P Q f xs h.1)

apart_append : {X : Type 0} (R : X → X → Type 0) (xs ys : List X) → Apart R xs → Apart R ys → AllByRecursion (λ x. AllByRecursion (R x) ys) xs → Apart R (xs ++ ys)
apart_append R [] ys h g c = g
apart_append R (x ∷ xs) ys h g c = (all_both (R x) xs ys h.0 c.0, apart_append R xs ys h.1 g c.1)

module _ (keys : List OrderKey) where
  abbrev AsIn : Env → Env → Type 0
  AsIn = IsAlike (vars_of keys) (vars_of keys)

  up_alike : (r s a b : Env) → AsIn r a → AsIn s b → IsUpTo keys r s → IsUpTo keys a b
  up_alike r s a b e f h = ap is_lt (cmp_alike keys s r b a f e) ∙ h

  piece_rises : (r : Env) (piece : List Env) → AllByRecursion (AsIn r) piece → Rises keys piece
  piece_rises r [] h = tt
  piece_rises r (a ∷ piece) h = (all_weaker (AsIn r) (IsUpTo keys a) (λ b f. up_alike r r a b h.0 f (cmp_itself keys r)) piece h.1, piece_rises r piece h.1)

  up_follows : (r a : Env) → AsIn r a → (rows out : List Env) → AllByRecursion (IsUpTo keys r) rows → Follows (vars_of keys) rows out → AllByRecursion (IsUpTo keys a) out
  up_follows r a e [] out h follows = subst (AllByRecursion (IsUpTo keys a)) (sym follows) tt
  up_follows r a e (s ∷ rows) out h follows =
      let piece = all_weaker (AsIn s) (IsUpTo keys a) (λ b f. up_alike r s a b e f h.0) follows.0 follows.3 in
      subst (AllByRecursion (IsUpTo keys a)) (sym follows.2) (all_both (IsUpTo keys a) follows.0 follows.1 piece (up_follows r a e rows follows.1 h.1 follows.4))

  rises_follows : (rows out : List Env) → Rises keys rows → Follows (vars_of keys) rows out → Rises keys out
  rises_follows [] out h follows = subst (Rises keys) (sym follows) tt
  rises_follows (r ∷ rows) out h follows =
      let across = all_weaker (AsIn r) (λ a. AllByRecursion (IsUpTo keys a) follows.1) (λ a e. up_follows r a e rows follows.1 h.0 follows.4) follows.0 follows.3 in
      subst (Rises keys) (sym follows.2) (apart_append (IsUpTo keys) follows.0 follows.1 (piece_rises r follows.0 follows.3) (rises_follows rows follows.1 h.1 follows.4) across)

  -- rows that follow sorted rows are sorted
  pub sorted-follows : (rows out : List Env) → IsSorted (keys_cmp keys) rows → Follows (vars_of keys) rows out → IsSorted (keys_cmp keys) out
  sorted-follows rows out h follows = sorted keys out (rises_follows rows out (rises keys rows h) follows)

-- what is sorted by keys is sorted by a prefix of them
prefix_lt : (vars : List Var) (keys : List OrderKey) (a b : Env) → is_lt (keys_cmp keys a b) ≡ false → is_lt (keys_cmp (kept_keys vars keys) a b) ≡ false
prefix_lt vars [] a b h = h
prefix_lt vars (k ∷ keys) a b h = kept (is_among vars k.var.name) (then_lt (directed k.descending (value_cmp (a k.var.name) (b k.var.name))) (keys_cmp keys a b) (keys_cmp (kept_keys vars keys) a b) (prefix_lt vars keys a b) h)
  where
    kept : (c : Bool) → is_lt (keys_cmp (k ∷ kept_keys vars keys) a b) ≡ false → is_lt (keys_cmp (if c then k ∷ kept_keys vars keys else []) a b) ≡ false
    kept true g = g
    kept false g = refl

    then_lt : (o rest fewer : Ordering) → (is_lt rest ≡ false → is_lt fewer ≡ false) → is_lt (ordering_then o rest) ≡ false → is_lt (ordering_then o fewer) ≡ false
    then_lt Less rest fewer f g = g
    then_lt Equal rest fewer f g = f g
    then_lt Greater rest fewer f g = refl

pub sorted-prefix : (vars : List Var) (keys : List OrderKey) (rows : List Env) → IsSorted (keys_cmp keys) rows → IsSorted (keys_cmp (kept_keys vars keys)) rows
sorted-prefix vars keys rows h k d low high = prefix_lt vars keys (get_or rows (k + 1) d) (get_or rows k d) (h k d low high)
