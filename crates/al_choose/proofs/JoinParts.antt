-- Joined rows: what the parts give is of all rows together, where the rows of a pair stand in parts of one number, or where each part has all right rows.
use Rattle.std.proofs.Common.{◌≡◌, ◌≢◌, ◌<◌, ◌≤◌, ◌+◌, ℕ, zero, suc, Bool, true, false, List, [], ◌∷◌, ◌++◌, Option, Some, None, map, filter, flat_map, filter_map, zip, length, get_or, refl, ap, sym, subst, ◌∙◌, append-nil, append_assoc, arith}
use Rattle.std.specs.Prelude.{if◌then◌else◌, ◌&&◌}
use Rattle.std.specs.Cmp.Lexicographic.{same_text}
use Rattle.std.specs.List.{All, AllByRecursion, AllZip, list_all, cons_option}
use Rattle.std.specs.List.Sorted.{IsPermutation}
use Rattle.std.proofs.lemmas.Bool.Decides.{Decides-int_eq}
use Rattle.std.proofs.lemmas.List.{map-append}
use Rattle.std.proofs.lemmas.List.Concat.{flat_map-append}
use Rattle.std.proofs.lemmas.List.Elements.{All-nil, All-append, All-weaker, filter-append, recursion_from_All}
use Rattle.std.proofs.lemmas.List.Sorted.{IsPermutation-refl, IsPermutation-trans, IsPermutation-append, IsPermutation-map, length_permutation}
use Rattle.al_value.specs.declared.value.Value.{Value}
use Rattle.al_value.specs.declared.value.Value.TheVariants as V
use Rattle.al_func.specs.declared.func.Func.{Func}
use Rattle.al_func.specs.declared.func.Func.TheVariants as F
use Rattle.al_func.specs.Func.{apply, is_true, equal}
use Rattle.al_plan.specs.declared.expr.Var.{Var}
use Rattle.al_plan.specs.declared.expr.Expr.{Expr}
use Rattle.al_plan.specs.declared.expr.Expr.TheOpen as L
use Rattle.al_plan.specs.Eval.{Env, eval, holds}
use Rattle.al_plan.specs.Allows.{is_among, beside, nulls, matches, or_alone}
use Rattle.al_plan.proofs.Bools.{no, by_cases}
use Rattle.al_plan.proofs.EvalLaws.{eval-Var, eval-Call}
use Rattle.al_plan.proofs.Makes.{Disjoint}
use Rattle.al_plan.proofs.Moves.{IsPermutation-same, IsPermutation-filter}
use Rattle.al_conj.specs.Conj.{conj}
use Rattle.al_conj.proofs.ConjLaws.{holds-conj}
use Rattle.al_conj.proofs.Literals.{expr_cases, out-Var, out-Lit, out-Call}
use Rattle.al_phys.specs.declared.property.Need.TheVariants as N
use Rattle.al_phys.specs.Gives.{joined}
use Rattle.al_phys.specs.Partition.{partition_of}
use Rattle.al_phys.specs.Parts.{Parts, Serves, first_part, part_of, values_at}
use Rattle.al_phys.specs.Properties.{equi_key, equi_keys, equi_step, both_sided, sided, variable_of}
use Rattle.al_phys.proofs.EquiLaws.{variable-Var, variable-Lit, variable-Call}
use Rattle.al_phys.proofs.ValueLaws.{and_left, and_right}
use Rattle.al_choose.proofs.GroupParts.{all_rows}

-- ---- joined rows, left row by left row

-- what a left row gives
abbrev given : Bool → List Var → Expr → List Env → Env → List Env
given true vars c rs l = or_alone (beside vars l nulls) (matches vars c rs l)
given false vars c rs l = matches vars c rs l

module _ (vars : List Var) (c : Expr) where
  joined_is : (outer : Bool) (ls rs : List Env) → joined outer vars c ls rs ≡ flat_map (given outer vars c rs) ls
  joined_is true ls rs = refl
  joined_is false ls rs = refl

  joined_none : (outer : Bool) (rs : List Env) → joined outer vars c [] rs ≡ []
  joined_none outer rs = joined_is outer [] rs

  joined_append : (outer : Bool) (xs ys rs : List Env) → joined outer vars c (xs ++ ys) rs ≡ joined outer vars c xs rs ++ joined outer vars c ys rs
  joined_append true xs ys rs = flat_map-append (given true vars c rs) xs ys
  joined_append false xs ys rs = flat_map-append (given false vars c rs) xs ys

  alone_moved : (x : Env) (ys zs : List Env) → IsPermutation ys zs → IsPermutation (or_alone x ys) (or_alone x zs)
  alone_moved x [] [] h = IsPermutation-refl (x ∷ [])
  alone_moved x [] (z ∷ zs) h = absurd (omega (arith, length_permutation [] (z ∷ zs) h))
  alone_moved x (y ∷ ys) [] h = absurd (omega (arith, length_permutation (y ∷ ys) [] h))
  alone_moved x (y ∷ ys) (z ∷ zs) h = h

  matches_moved : (rs ss : List Env) → IsPermutation rs ss → (l : Env) → IsPermutation (matches vars c rs l) (matches vars c ss l)
  matches_moved rs ss h l = IsPermutation-filter (holds c) (map (beside vars l) rs) (map (beside vars l) ss) (IsPermutation-map (beside vars l) rs ss h)

  given_moved : (outer : Bool) (rs ss : List Env) → IsPermutation rs ss → (l : Env) → IsPermutation (given outer vars c rs l) (given outer vars c ss l)
  given_moved true rs ss h l = alone_moved (beside vars l nulls) (matches vars c rs l) (matches vars c ss l) (matches_moved rs ss h l)
  given_moved false rs ss h l = matches_moved rs ss h l

  -- right rows in another order give joined rows in another order
  joined_moved : (outer : Bool) (ls rs ss : List Env) → IsPermutation rs ss → IsPermutation (joined outer vars c ls rs) (joined outer vars c ls ss)
  joined_moved outer ls rs ss h =
      subst (IsPermutation (joined outer vars c ls rs)) (sym (joined_is outer ls ss))
      (subst (λ (t : List Env). IsPermutation t (flat_map (given outer vars c ss) ls)) (sym (joined_is outer ls rs)) (each ls))
    where
      each : (xs : List Env) → IsPermutation (flat_map (given outer vars c rs) xs) (flat_map (given outer vars c ss) xs)
      each [] = IsPermutation-refl []
      each (x ∷ xs) = IsPermutation-append (given outer vars c rs x) (given outer vars c ss x) (flat_map (given outer vars c rs) xs) (flat_map (given outer vars c ss) xs) (given_moved outer rs ss h x) (each xs)

  -- where each left row is in the same pairs, the joined rows are the same
  joined_same : (outer : Bool) (ls rs ss : List Env) → AllByRecursion (λ l. matches vars c rs l ≡ matches vars c ss l) ls → joined outer vars c ls rs ≡ joined outer vars c ls ss
  joined_same true [] rs ss h = refl
  joined_same false [] rs ss h = refl
  joined_same true (l ∷ ls) rs ss h = λ i. or_alone (beside vars l nulls) (h.0 i) ++ joined_same true ls rs ss h.1 i
  joined_same false (l ∷ ls) rs ss h = λ i. h.0 i ++ joined_same false ls rs ss h.1 i

  matches_append : (l : Env) (rs ss : List Env) → matches vars c (rs ++ ss) l ≡ matches vars c rs l ++ matches vars c ss l
  matches_append l rs ss = ap (filter (holds c)) (map-append (beside vars l) rs ss) ∙ filter-append (holds c) (map (beside vars l) rs) (map (beside vars l) ss)

  matches_none : (l : Env) (rs : List Env) → AllByRecursion (λ r. holds c (beside vars l r) ≡ false) rs → matches vars c rs l ≡ []
  matches_none l [] h = refl
  matches_none l (r ∷ rs) h = rw h.0 (matches_none l rs h.1)

-- ---- each part of the right input has all its rows

module _ (outer : Bool) (ls : List Var) (c : Expr) where
  abbrev AreJoined : Parts → Parts → Parts → Type 0
  AreJoined left right parts = AllZip (λ both out. IsPermutation (joined outer ls c both.0 both.1) out) (zip left right) parts

  none_joined : (rs : List Env) → IsPermutation (joined outer ls c [] rs) []
  none_joined rs = IsPermutation-same (joined outer ls c [] rs) [] (joined_none ls c outer rs)

  loop_over : (whole : List Env) (left right parts : Parts) → AllByRecursion (IsPermutation whole) right → length left ≡ length right → AreJoined left right parts → IsPermutation (joined outer ls c (all_rows left) whole) (all_rows parts)
  loop_over whole [] right [] same e z = none_joined whole
  loop_over whole [] right (out ∷ parts) same e z = absurd z
  loop_over whole (l ∷ left) [] parts same e z = absurd (omega (arith, e))
  loop_over whole (l ∷ left) (r ∷ right) [] same e z = absurd z
  loop_over whole (l ∷ left) (r ∷ right) (out ∷ parts) same e z =
      let here = IsPermutation-trans (joined outer ls c l whole) (joined outer ls c l r) out (joined_moved ls c outer l whole r same.0) z.0 in
      let more = loop_over whole left right parts same.1 (omega (arith, e)) z.1 in
      subst (λ (t : List Env). IsPermutation t (out ++ all_rows parts)) (sym (joined_append ls c outer l (all_rows left) whole))
      (IsPermutation-append (joined outer ls c l whole) out (joined outer ls c (all_rows left) whole) (all_rows parts) here more)

pub loop_joined : (outer : Bool) (ls : List Var) (c : Expr) (left right parts : Parts) → length left ≡ length right → Serves N.All right
    → AllZip (λ both out. IsPermutation (joined outer ls c both.0 both.1) out) (zip left right) parts → IsPermutation (joined outer ls c (flat_map (λ (xs : List Env). xs) left) (first_part right)) (flat_map (λ (xs : List Env). xs) parts)
unfolding Serves
loop_joined outer ls c left [] parts e h z = loop_over outer ls c [] left [] parts tt e z
loop_joined outer ls c left (r ∷ right) parts e h z = loop_over outer ls c r left (r ∷ right) parts (recursion_from_All (IsPermutation r) (r ∷ right) (h zero r (omega arith))) e z

-- ---- the keys of a pair

equal_same : (a b : Value) → is_true (equal a b) ≡ true → a ≡ b
equal_same (V.Bool true) (V.Bool true) h = refl
equal_same (V.Bool true) (V.Bool false) h = absurd (no (sym h))
equal_same (V.Bool false) (V.Bool true) h = absurd (no (sym h))
equal_same (V.Bool false) (V.Bool false) h = refl
equal_same (V.Int a) (V.Int b) h = ap V.Int ((Decides-int_eq a b).0 h)
equal_same (V.Text a) (V.Text b) h = ap V.Text (same_text a b (sym h))
equal_same a b h = absurd (no (sym h))

-- an expression that is a variable has its value
variable_value : (e : Expr) (v : Var) → variable_of e ≡ Some v → (row : Env) → eval e row ≡ row v.name
variable_value = expr_cases (λ e. (v : Var) → variable_of e ≡ Some v → (row : Env) → eval e row ≡ row v.name)
    (λ w v h row. eval-Var w row ∙ ap row (same_name w v (sym (variable-Var w) ∙ h)))
    (λ w v h row. absurd (nothing v (sym (variable-Lit w) ∙ h)))
    (λ f args v h row. absurd (nothing v (sym (variable-Call f args) ∙ h)))
  where
    same_name : (w v : Var) → Some w ≡ Some v → w.name ≡ v.name
    same_name w v h = cc

    nothing : (v : Var) → None ≡ Some v → ⊥
    nothing v h = cc

module _ (ls rs : List Var) (apart : Disjoint ls rs) (l r : Env) where
  abbrev row : Env
  row = beside ls l r

  left_value : (q : List ℕ) → is_among ls q ≡ true → row q ≡ l q
  left_value q e = ap (λ b. if b then l q else r q) e

  right_value : (q : List ℕ) → is_among rs q ≡ true → row q ≡ r q
  right_value q e = ap (λ b. if b then l q else r q) (by_cases (is_among ls q) (λ t. absurd (no (sym e ∙ apart q t))) (λ f. f))

  abbrev AreKeysSame : Var × Var → Type 0
  AreKeysSame k = l k.0.name ≡ r k.1.name

  sided_same : (x y : Var) (k : Var × Var) → sided ls rs x y ≡ Some k → row x.name ≡ row y.name → AreKeysSame k
  sided_same x y k found same = first (is_among ls x.name && is_among rs y.name) refl found
    where
      second : (b : Bool) → (is_among rs x.name && is_among ls y.name) ≡ b → (if b then Some (y, x) else None) ≡ Some k → AreKeysSame k
      second true e h =
          let is : (y, x) ≡ k = cc in
          subst AreKeysSame is (sym (left_value y.name (and_right (is_among rs x.name) (is_among ls y.name) e)) ∙ sym same ∙ right_value x.name (and_left (is_among rs x.name) (is_among ls y.name) e))
      second false e h = cc

      first : (b : Bool) → (is_among ls x.name && is_among rs y.name) ≡ b → (if b then Some (x, y) else if is_among rs x.name && is_among ls y.name then Some (y, x) else None) ≡ Some k → AreKeysSame k
      first true e h =
          let is : (x, y) ≡ k = cc in
          subst AreKeysSame is (sym (left_value x.name (and_left (is_among ls x.name) (is_among rs y.name) e)) ∙ same ∙ right_value y.name (and_right (is_among ls x.name) (is_among rs y.name) e))
      first false e h = second (is_among rs x.name && is_among ls y.name) refl h

  eq_same : (a b : Expr) (k : Var × Var) → both_sided ls rs (variable_of a) (variable_of b) ≡ Some k → is_true (equal (eval a row) (eval b row)) ≡ true → AreKeysSame k
  eq_same a b k found h = by (variable_of a) (variable_of b) refl refl found
    where
      by : (x y : Option Var) → variable_of a ≡ x → variable_of b ≡ y → both_sided ls rs x y ≡ Some k → AreKeysSame k
      by (Some x) (Some y) e f g = sided_same x y k g (sym (variable_value a x e row) ∙ equal_same (eval a row) (eval b row) h ∙ variable_value b y f row)
      by (Some x) None e f g = cc
      by None y e f g = cc

  -- the equi key of a conjunct that is TRUE of the pair
  key_same : (e : Expr) (k : Var × Var) → equi_key ls rs e ≡ Some k → holds e row ≡ true → AreKeysSame k
  unfolding apply
  key_same = expr_cases (λ e. (k : Var × Var) → equi_key ls rs e ≡ Some k → holds e row ≡ true → AreKeysSame k)
      (λ v k found h. absurd (nothing k (sym (ap (equi_step ls rs) (out-Var v)) ∙ found)))
      (λ v k found h. absurd (nothing k (sym (ap (equi_step ls rs) (out-Lit v)) ∙ found)))
      (λ f args k found h. call f args k (sym (ap (equi_step ls rs) (out-Call f args)) ∙ found) (sym (ap is_true (eval-Call f args row)) ∙ h))
    where
      nothing : (k : Var × Var) → None ≡ Some k → ⊥
      nothing k h = cc

      call : (f : Func) (args : List Expr) (k : Var × Var) → equi_step ls rs (L.Call f args) ≡ Some k → is_true (apply f (map (λ a. eval a row) args)) ≡ true → AreKeysSame k
      call F.Eq (a ∷ b ∷ []) k found h = eq_same a b k found h
      call f args k found h = absurd (nothing k found)

  keys_of_conjuncts : (es : List Expr) → list_all (λ e. holds e row) es ≡ true → values_at (map (λ k. k.0) (filter_map (equi_key ls rs) es)) l ≡ values_at (map (λ k. k.1) (filter_map (equi_key ls rs) es)) r
  keys_of_conjuncts [] h = refl
  keys_of_conjuncts (e ∷ es) h = by (equi_key ls rs e) refl (keys_of_conjuncts es (and_right (holds e row) (list_all (λ e. holds e row) es) h))
    where
      by : (o : Option (Var × Var)) → equi_key ls rs e ≡ o → values_at (map (λ k. k.0) (filter_map (equi_key ls rs) es)) l ≡ values_at (map (λ k. k.1) (filter_map (equi_key ls rs) es)) r
          → values_at (map (λ k. k.0) (cons_option o (filter_map (equi_key ls rs) es))) l ≡ values_at (map (λ k. k.1) (cons_option o (filter_map (equi_key ls rs) es))) r
      by None is more = more
      by (Some k) is more = λ i. key_same e k is (and_left (holds e row) (list_all (λ e. holds e row) es) h) i ∷ more i

  -- the rows of a pair have the same values at the keys
  pair_keys : (c : Expr) → holds c row ≡ true → values_at (map (λ k. k.0) (equi_keys ls rs c)) l ≡ values_at (map (λ k. k.1) (equi_keys ls rs c)) r
  pair_keys c h = keys_of_conjuncts (conj c) (sym (holds-conj c row) ∙ h)

-- ---- rows stand in parts by the hash of their keys

-- the rows of the parts from this one on, each of the part of its number
abbrev Numbered : ℕ → List Var → ℕ → Parts → Type 0
Numbered n vars from [] = Unit {0}
Numbered n vars from (rows ∷ parts) = All (λ r. part_of n vars r ≡ from) rows × Numbered n vars (suc from) parts

numbered_from : (n : ℕ) (vars : List Var) (from : ℕ) (parts : Parts) → ((j : ℕ) → j < length parts → All (λ r. part_of n vars r ≡ from + j) (get_or parts j [])) → Numbered n vars from parts
numbered_from n vars from [] f = tt
numbered_from n vars from (rows ∷ parts) f = (
  All-weaker (λ r. part_of n vars r ≡ from + 0) (λ r. part_of n vars r ≡ from) (λ r e. omega (arith, e)) rows (f zero (omega arith)),
  numbered_from n vars (suc from) parts (λ j lt. All-weaker (λ r. part_of n vars r ≡ from + suc j) (λ r. part_of n vars r ≡ suc from + j) (λ r e. omega (arith, e)) (get_or parts j []) (f (suc j) (omega arith))),
)

numbered : (vars : List Var) (parts : Parts) → Serves (N.Exactly vars) parts → Numbered (length parts) vars 0 parts
unfolding Serves
numbered vars parts h = numbered_from (length parts) vars 0 parts (λ j lt. All-weaker (λ r. part_of (length parts) vars r ≡ j) (λ r. part_of (length parts) vars r ≡ 0 + j) (λ r e. omega (arith, e)) (get_or parts j []) (h.each j lt))

numbered_later : (n : ℕ) (vars : List Var) (from : ℕ) (parts : Parts) → Numbered n vars from parts → All (λ r. from ≤ part_of n vars r) (all_rows parts)
numbered_later n vars from [] h = All-nil _
numbered_later n vars from (rows ∷ parts) h =
    All-append (λ r. from ≤ part_of n vars r) rows (all_rows parts)
    (All-weaker (λ r. part_of n vars r ≡ from) (λ r. from ≤ part_of n vars r) (λ r e. omega (arith, e)) rows h.0)
    (All-weaker (λ r. suc from ≤ part_of n vars r) (λ r. from ≤ part_of n vars r) (λ r e. omega (arith, e)) (all_rows parts) (numbered_later n vars (suc from) parts h.1))

module _ (outer : Bool) (ls rs : List Var) (c : Expr) (apart : Disjoint ls rs) (n : ℕ) where
  abbrev lefts : List Var
  lefts = map (λ k. k.0) (equi_keys ls rs c)

  abbrev rights : List Var
  rights = map (λ k. k.1) (equi_keys ls rs c)

  -- rows whose parts have different numbers are no pair
  no_pair : (l r : Env) → part_of n lefts l ≢ part_of n rights r → holds c (beside ls l r) ≡ false
  no_pair l r other = by_cases (holds c (beside ls l r)) (λ t. absurd (other (ap (partition_of n) (pair_keys ls rs apart l r c t)))) (λ f. f)

  none_of : (l : Env) (others : List Env) → All (λ r. part_of n lefts l ≢ part_of n rights r) others → matches ls c others l ≡ []
  none_of l others h = matches_none ls c l others (recursion_from_All (λ r. holds c (beside ls l r) ≡ false) others (All-weaker (λ r. part_of n lefts l ≢ part_of n rights r) (λ r. holds c (beside ls l r) ≡ false) (λ r other. no_pair l r other) others h))

  -- a row of a left part is in pairs with rows of the right part of its number alone
  only_here : (i : ℕ) (before here after : List Env) → All (λ r. part_of n rights r < i) before → All (λ r. suc i ≤ part_of n rights r) after → (l : Env) → part_of n lefts l ≡ i → matches ls c (before ++ (here ++ after)) l ≡ matches ls c here l
  only_here i before here after low high l at =
      matches_append ls c l before (here ++ after)
      ∙ ap (λ (t : List Env). t ++ matches ls c (here ++ after) l) (none_of l before (All-weaker (λ r. part_of n rights r < i) (λ r. part_of n lefts l ≢ part_of n rights r) (λ r lt e. omega (arith, lt, e, at)) before low))
      ∙ matches_append ls c l here after
      ∙ ap (λ (t : List Env). matches ls c here l ++ t) (none_of l after (All-weaker (λ r. suc i ≤ part_of n rights r) (λ r. part_of n lefts l ≢ part_of n rights r) (λ r lt e. omega (arith, lt, e, at)) after high))
      ∙ append-nil (matches ls c here l)

  hash_over : (before : List Env) (i : ℕ) (left right parts : Parts) → All (λ r. part_of n rights r < i) before → Numbered n lefts i left → Numbered n rights i right → length left ≡ length right
      → AreJoined outer ls c left right parts → IsPermutation (joined outer ls c (all_rows left) (before ++ all_rows right)) (all_rows parts)
  hash_over before i [] right [] low ln rn e z = none_joined outer ls c (before ++ all_rows right)
  hash_over before i [] right (out ∷ parts) low ln rn e z = absurd z
  hash_over before i (l ∷ left) [] parts low ln rn e z = absurd (omega (arith, e))
  hash_over before i (l ∷ left) (r ∷ right) [] low ln rn e z = absurd z
  hash_over before i (l ∷ left) (r ∷ right) (out ∷ parts) low ln rn e z =
      let after = all_rows right in
      let whole = before ++ (r ++ after) in
      let same = joined_same ls c outer l whole r
      (recursion_from_All (λ x. matches ls c whole x ≡ matches ls c r x) l
      (All-weaker (λ x. part_of n lefts x ≡ i) (λ x. matches ls c whole x ≡ matches ls c r x) (only_here i before r after low (numbered_later n rights (suc i) right rn.1)) l ln.0)) in
      let here = subst (λ (t : List Env). IsPermutation t out) (sym same) z.0 in
      let passed = All-append (λ x. part_of n rights x < suc i) before r
      (All-weaker (λ x. part_of n rights x < i) (λ x. part_of n rights x < suc i) (λ x lt. omega (arith, lt)) before low)
      (All-weaker (λ x. part_of n rights x ≡ i) (λ x. part_of n rights x < suc i) (λ x at. omega (arith, at)) r rn.0) in
      let more = subst (λ (t : List Env). IsPermutation (joined outer ls c (all_rows left) t) (all_rows parts)) (append_assoc before r after) (hash_over (before ++ r) (suc i) left right parts passed ln.1 rn.1 (omega (arith, e)) z.1) in
      subst (λ (t : List Env). IsPermutation t (out ++ all_rows parts)) (sym (joined_append ls c outer l (all_rows left) whole))
      (IsPermutation-append (joined outer ls c l whole) out (joined outer ls c (all_rows left) whole) (all_rows parts) here more)

pub hash_joined : (outer : Bool) (ls rs : List Var) (c : Expr) (left right parts : Parts) → Disjoint ls rs → length left ≡ length right
    → Serves (N.Exactly (map (λ k. k.0) (equi_keys ls rs c))) left → Serves (N.Exactly (map (λ k. k.1) (equi_keys ls rs c))) right
    → AllZip (λ both out. IsPermutation (joined outer ls c both.0 both.1) out) (zip left right) parts → IsPermutation (joined outer ls c (flat_map (λ (xs : List Env). xs) left) (flat_map (λ (xs : List Env). xs) right)) (flat_map (λ (xs : List Env). xs) parts)
hash_joined outer ls rs c left right parts apart e lh rh z =
    let n = length left in
    let rights = map (λ k. k.1) (equi_keys ls rs c) in
    hash_over outer ls rs c apart n [] 0 left right parts (All-nil (λ r. part_of n rights r < 0)) (numbered (map (λ k. k.0) (equi_keys ls rs c)) left lh)
    (subst (λ (m : ℕ). Numbered m rights 0 right) (sym e) (numbered rights right rh)) e z
