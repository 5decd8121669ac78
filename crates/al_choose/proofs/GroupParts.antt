-- Groups, stretches and different rows: what the parts give is of all rows together, where the keys of the parts are apart.
use Rattle.std.proofs.Common.{◌≡◌, ◌≢◌, ◌<◌, ℕ, zero, suc, Bool, true, false, List, [], ◌∷◌, ◌++◌, map, flat_map, take, length, get_or, refl, ap, sym, subst, ◌∙◌, arith, ⊎_elim, ◌+◌, Less, Equal, Greater, Ordering, is_lt}
use Rattle.std.specs.List.{All, AllByRecursion, AllZip, AllPairs, Contains}
use Rattle.std.specs.List.Sorted.{IsPermutation, IsSorted}
use Rattle.std.proofs.lemmas.List.Elements.{All-nil, All-append, All-weaker, All-contains, recursion_from_All, Contains-get_or, Contains-append_left, Contains-append_right, Contains-append_cases}
use Rattle.std.proofs.lemmas.List.Sorted.{IsPermutation-refl, IsPermutation-sym, IsPermutation-append, Contains-permutation}
use Rattle.std.proofs.lemmas.List.Concat.{flat_map-append}
use Rattle.std.specs.Prelude.{nat_eq, ◌||◌}
use Rattle.std.specs.Ordering.{ordering_then, ordering_reverse, is_eq}
use Rattle.std.specs.Cmp.Lexicographic.{pointwise, same_text, texts_ties}
use Rattle.std.proofs.lemmas.Cmp.{int_ranked}
use Rattle.al_value.specs.declared.value.Value.{Value}
use Rattle.al_value.specs.declared.value.Value.TheVariants as V
use Rattle.al_value.specs.Value.{value_cmp}
use Rattle.al_plan.specs.declared.expr.Var.{Var}
use Rattle.al_plan.specs.declared.plan.Plan.{Plan}
use Rattle.al_plan.specs.declared.plan.OrderKey.{OrderKey}
use Rattle.al_plan.specs.Eval.{Env}
use Rattle.al_plan.specs.Allows.{Sets, key_of, Group, rows_in, IsGrouping, IsDistinctOf, keys_cmp, directed, is_among}
use Rattle.al_plan.specs.Accept.{are_among}
use Rattle.al_plan.specs.Uses.{firsts}
use Rattle.al_plan.specs.Refines.{AreLive}
use Rattle.al_plan.proofs.Moves.{Apart, apart_from_pairs, pairs_from_apart, IsPermutation-same}
use Rattle.al_plan.proofs.Bools.{no, by_cases}
use Rattle.al_plan.proofs.Makes.{at_head}
use Rattle.al_plan.proofs.RowLaws.{keys_cmp_total}
use Rattle.al_phys.specs.declared.property.Need.TheVariants as N
use Rattle.al_phys.specs.declared.property.Local.{Local}
use Rattle.al_phys.specs.declared.property.Local.TheVariants as O
use Rattle.al_phys.specs.Gives.{IsGrouped, AreStretches, IsPreGrouped}
use Rattle.al_phys.specs.Parts.{Parts, Serves, AreApart, values_at, HasLocal}
use Rattle.al_phys.specs.Properties.{old_of}
use Rattle.al_phys.specs.Placed.{keys_in, vars_of, leading, is_grouped, ascending}
use Rattle.al_phys.proofs.OverLaws.{live_more}
use Rattle.al_phys.proofs.FlowLaws.{all_both, cmp_alike, rises}
use Rattle.al_phys.proofs.ValueLaws.{and_left, and_right, live_from, values_same}

-- ---- lists

-- the pairs of two lists, and those between them
pairs_append : {X : Type 0} (R : X → X → Type 0) (xs ys : List X) → AllPairs R xs → AllPairs R ys → ((x y : X) → Contains xs x → Contains ys y → R x y) → AllPairs R (xs ++ ys)
pairs_append {X} R xs ys f g across = pairs_from_apart R (xs ++ ys) (behind xs (apart_from_pairs R xs f) across)
  where
    behind : (zs : List X) → Apart R zs → ((x y : X) → Contains zs x → Contains ys y → R x y) → Apart R (zs ++ ys)
    behind [] h c = apart_from_pairs R ys g
    behind (z ∷ zs) h c = (
      all_both (R z) zs ys h.0 (recursion_from_All (R z) ys (λ k d lt. c z (get_or ys k d) (zero, omega arith, refl) (Contains-get_or ys k d lt))),
      behind zs h.1 (λ x y left right. c x y (Contains-append_right (z ∷ []) zs x left) right),
    )

contains_flat : {X Y : Type 0} (f : X → List Y) (xs : List X) (x : X) (y : Y) → Contains xs x → Contains (f x) y → Contains (flat_map f xs) y
contains_flat {X} {Y} f xs x y c d = at xs c.0 c.1 c.2
  where
    at : (zs : List X) (k : ℕ) → k < length zs → get_or zs k x ≡ x → Contains (flat_map f zs) y
    at [] k lt e = absurd (omega arith)
    at (z ∷ zs) zero lt e = Contains-append_left (f z) (flat_map f zs) y (subst (λ (t : X). Contains (f t) y) (sym e) d)
    at (z ∷ zs) (suc k) lt e = Contains-append_right (f z) (flat_map f zs) y (at zs k (omega arith) e)

zip_append : {X Y : Type 0} (R : X → Y → Type 0) (xs us : List X) (ys vs : List Y) → AllZip R xs ys → AllZip R us vs → AllZip R (xs ++ us) (ys ++ vs)
zip_append R [] us [] vs z w = w
zip_append R [] us (y ∷ ys) vs z w = absurd z
zip_append R (x ∷ xs) us [] vs z w = absurd z
zip_append R (x ∷ xs) us (y ∷ ys) vs z w = (z.0, zip_append R xs us ys vs z.1 w)

-- ---- parts with keys apart

-- the rows of all parts, one part after the other
abbrev pub all_rows : Parts → List Env
all_rows parts = flat_map (λ (xs : List Env). xs) parts

-- no row of a part has the values of a row of the others
apart_all : (vars : List Var) (rows : List Env) (input : Parts) → AllByRecursion (AreApart vars rows) input → AreApart vars rows (all_rows input)
apart_all vars rows [] h r s left right e = absurd (omega (arith, right.1))
apart_all vars rows (xs ∷ input) h r s left right e =
    ⊎_elim
    (λ (c : Contains xs s). h.0 r s left c e)
    (λ (c : Contains (all_rows input) s). apart_all vars rows input h.1 r s left c e)
    (Contains-append_cases xs (all_rows input) s right)

-- ---- different rows

module _ (vars : List Var) where
  distinct_over : (input parts : Parts) → Apart (AreApart vars) input → AllZip IsDistinctOf input parts → IsDistinctOf (all_rows input) (all_rows parts)
  distinct_over [] [] h z = record { within = All-nil _; all = All-nil _; once = λ i j d low high. absurd (omega arith) }
  distinct_over [] (out ∷ parts) h z = absurd z
  distinct_over (rows ∷ input) [] h z = absurd z
  distinct_over (rows ∷ input) (out ∷ parts) h z =
      let here : IsDistinctOf rows out = z.0 in
      let more : IsDistinctOf (all_rows input) (all_rows parts) = distinct_over input parts h.1 z.1 in
      let before = rows ++ all_rows input in
      let after = out ++ all_rows parts in
      record {
        within = All-append (Contains before) out (all_rows parts)
            (All-weaker (Contains rows) (Contains before) (λ x c. Contains-append_left rows (all_rows input) x c) out here.within)
            (All-weaker (Contains (all_rows input)) (Contains before) (λ x c. Contains-append_right rows (all_rows input) x c) (all_rows parts) more.within);
        all = All-append (Contains after) rows (all_rows input)
            (All-weaker (Contains out) (Contains after) (λ x c. Contains-append_left out (all_rows parts) x c) rows here.all)
            (All-weaker (Contains (all_rows parts)) (Contains after) (λ x c. Contains-append_right out (all_rows parts) x c) (all_rows input) more.all);
        once = pairs_append ◌≢◌ out (all_rows parts) here.once more.once
            (λ x y left right same. apart_all vars rows input h.0 x y (All-contains (Contains rows) out x here.within left) (All-contains (Contains (all_rows input)) (all_rows parts) y more.within right) (ap (values_at vars) same));
      }

pub distinct_parts : (vars : List Var) (input parts : Parts) → Serves (N.Keyed vars) input → AllZip IsDistinctOf input parts → IsDistinctOf (flat_map (λ (xs : List Env). xs) input) (flat_map (λ (xs : List Env). xs) parts)
unfolding Serves
distinct_parts vars input parts h z = distinct_over vars input parts (apart_from_pairs (AreApart vars) input h) z

-- ---- groups

-- the key of a row has its values at the old variables
key_values : (keys : List (Var × Var)) (r : Env) → key_of keys r ≡ values_at (old_of keys) r
key_values [] r = refl
key_values (k ∷ keys) r = ap (λ (vs : List Value). r k.1.name ∷ vs) (key_values keys r)

module _ (keys : List (Var × Var)) (inner : Plan) (passing : Bool) (sets : Sets) (vars : List Var) where
  -- the first row of a group is a row of the input
  head_in : (rows : List Env) (groups : List Group) (g : Group) → IsGrouping keys rows groups → Contains groups g → Contains rows g.0
  head_in rows groups g grouping c =
      Contains-permutation (flat_map rows_in groups) rows g.0 (IsPermutation-sym rows (flat_map rows_in groups) grouping.moved)
      (contains_flat rows_in groups g g.0 c (zero, omega arith, refl))

  grouping_append : (rows more : List Env) (gs hs : List Group) → AreApart (old_of keys) rows more → IsGrouping keys rows gs → IsGrouping keys more hs → IsGrouping keys (rows ++ more) (gs ++ hs)
  grouping_append rows more gs hs apart f g = record {
    moved = subst (IsPermutation (rows ++ more)) (sym (flat_map-append rows_in gs hs)) (IsPermutation-append rows (flat_map rows_in gs) more (flat_map rows_in hs) f.moved g.moved);
    alike = All-append (λ (a : Group). All (λ r. key_of keys r ≡ key_of keys a.0) a.1) gs hs f.alike g.alike;
    apart = pairs_append (λ (a b : Group). key_of keys a.0 ≢ key_of keys b.0) gs hs f.apart g.apart
        (λ a b left right same. apart a.0 b.0 (head_in rows gs a f left) (head_in more hs b g right) (sym (key_values keys a.0) ∙ same ∙ key_values keys b.0));
  }

  grouped_over : (input parts : Parts) → Apart (AreApart (old_of keys)) input → AllZip (IsGrouped keys inner passing sets vars) input parts → IsGrouped keys inner passing sets vars (all_rows input) (all_rows parts)
  grouped_over [] [] h z = ([], [], record { moved = IsPermutation-refl []; alike = All-nil _; apart = λ i j d low high. absurd (omega arith) }, tt, IsPermutation-refl [])
  grouped_over [] (out ∷ parts) h z = absurd z
  grouped_over (rows ∷ input) [] h z = absurd z
  grouped_over (rows ∷ input) (out ∷ parts) h z =
      let here : IsGrouped keys inner passing sets vars rows out = z.0 in
      let more : IsGrouped keys inner passing sets vars (all_rows input) (all_rows parts) = grouped_over input parts h.1 z.1 in (
        here.0 ++ more.0,
        here.1 ++ more.1,
        grouping_append rows (all_rows input) here.0 more.0 (apart_all (old_of keys) rows input h.0) here.2 more.2,
        zip_append _ here.0 more.0 here.1 more.1 here.3 more.3,
        IsPermutation-append here.1 out more.1 (all_rows parts) here.4 more.4,
      )

  pub grouped_parts : (input parts : Parts) → Serves (N.Keyed (old_of keys)) input → AllZip (IsGrouped keys inner passing sets vars) input parts
      → IsGrouped keys inner passing sets vars (flat_map (λ (xs : List Env). xs) input) (flat_map (λ (xs : List Env). xs) parts)
  unfolding Serves
  grouped_parts input parts h z = grouped_over input parts (apart_from_pairs (AreApart (old_of keys)) input h) z

-- ---- rows that are level

equal_values : (a b : Value) → value_cmp a b ≡ Equal → a ≡ b
equal_values V.Null V.Null h = refl
equal_values (V.Bool true) (V.Bool true) h = refl
equal_values (V.Bool false) (V.Bool false) h = refl
equal_values (V.Int a) (V.Int b) h = ap V.Int (int_ranked a b Equal (sym h))
equal_values (V.Text a) (V.Text b) h = ap V.Text (same_text a b (sym (texts_ties a b ∙ ap is_eq h)))
equal_values a b h = cc

undirected : (descending : Bool) (o : Ordering) → directed descending o ≡ Equal → o ≡ Equal
undirected false o h = h
undirected true Less h = cc
undirected true Equal h = refl
undirected true Greater h = cc

both_equal : (o rest : Ordering) → ordering_then o rest ≡ Equal → (o ≡ Equal) × (rest ≡ Equal)
both_equal Less rest h = cc
both_equal Equal rest h = (refl, h)
both_equal Greater rest h = cc

level_values : (keys : List OrderKey) (a b : Env) → keys_cmp keys a b ≡ Equal → values_at (vars_of keys) a ≡ values_at (vars_of keys) b
level_values [] a b h = refl
level_values (k ∷ keys) a b h =
    let both = both_equal (directed k.descending (value_cmp (a k.var.name) (b k.var.name))) (keys_cmp keys a b) h in
    let first = equal_values (a k.var.name) (b k.var.name) (undirected k.descending (value_cmp (a k.var.name) (b k.var.name)) both.0) in
    λ i. first i ∷ level_values keys a b both.1 i

-- rows of which neither is below the other have the same values at the keys
tied_values : (keys : List OrderKey) (a b : Env) → is_lt (keys_cmp keys a b) ≡ false → is_lt (keys_cmp keys b a) ≡ false → values_at (vars_of keys) a ≡ values_at (vars_of keys) b
tied_values keys a b h g = level_values keys a b (neither (keys_cmp keys a b) h (ap is_lt (sym ((keys_cmp_total keys).antisymm b a)) ∙ g))
  where
    neither : (o : Ordering) → is_lt o ≡ false → is_lt (ordering_reverse o) ≡ false → o ≡ Equal
    neither Less h g = absurd (no h)
    neither Equal h g = refl
    neither Greater h g = absurd (no g)

-- what does not fall by keys does not fall by the first of them
prefix_up : (m : ℕ) (keys : List OrderKey) (a b : Env) → is_lt (keys_cmp keys a b) ≡ false → is_lt (keys_cmp (take m keys) a b) ≡ false
prefix_up zero keys a b h = refl
prefix_up (suc m) [] a b h = refl
prefix_up (suc m) (k ∷ keys) a b h = by (directed k.descending (value_cmp (a k.var.name) (b k.var.name))) (prefix_up m keys a b) h
  where
    by : (o : Ordering) → (is_lt (keys_cmp keys a b) ≡ false → is_lt (keys_cmp (take m keys) a b) ≡ false) → is_lt (ordering_then o (keys_cmp keys a b)) ≡ false → is_lt (ordering_then o (keys_cmp (take m keys) a b)) ≡ false
    by Less f g = g
    by Equal f g = f g
    by Greater f g = refl

prefix_sorted : (m : ℕ) (keys : List OrderKey) (rows : List Env) → IsSorted (keys_cmp keys) rows → IsSorted (keys_cmp (take m keys)) rows
prefix_sorted m keys rows h k d low high = prefix_up m keys (get_or rows (k + 1) d) (get_or rows k d) (h k d low high)

-- ---- the first rows of stretches

all_behind : (P : Env → Type 0) (xs ys : List Env) → AllByRecursion P (xs ++ ys) → AllByRecursion P ys
all_behind P [] ys h = h
all_behind P (x ∷ xs) ys h = all_behind P xs ys h.1

apart_behind : (R : Env → Env → Type 0) (xs ys : List Env) → Apart R (xs ++ ys) → Apart R ys
apart_behind R [] ys h = h
apart_behind R (x ∷ xs) ys h = apart_behind R xs ys h.1

all_heads : (P : Env → Type 0) (groups : List Group) → AllByRecursion P (flat_map rows_in groups) → AllByRecursion (λ g. P g.0) groups
all_heads P [] h = tt
all_heads P (g ∷ groups) h = (h.0, all_heads P groups (all_behind P g.1 (flat_map rows_in groups) h.1))

apart_heads : (R : Env → Env → Type 0) (groups : List Group) → Apart R (flat_map rows_in groups) → Apart (λ g h. R g.0 h.0) groups
apart_heads R [] h = tt
apart_heads R (g ∷ groups) h = (all_heads (R g.0) groups (all_behind (R g.0) g.1 (flat_map rows_in groups) h.0), apart_heads R groups (apart_behind R g.1 (flat_map rows_in groups) h.1))

-- ---- stretches of sorted rows

module _ (keys : List (Var × Var)) (lead : List OrderKey) (over : AreLive (old_of keys) (vars_of lead)) (under : AreLive (vars_of lead) (old_of keys)) where
  -- the second row is not below the first
  abbrev IsUpTo : Env → Env → Type 0
  IsUpTo a b = is_lt (keys_cmp lead b a) ≡ false

  abbrev Differ : Group → Group → Type 0
  Differ g h = key_of keys g.0 ≢ key_of keys h.0

  -- a row with the key of the first would stand both above and below the second
  differ_later : (g h : Group) (groups : List Group) → Differ g h → IsUpTo g.0 h.0 → AllByRecursion (λ x. IsUpTo h.0 x.0) groups → AllByRecursion (Differ g) groups
  differ_later g h [] other up later = tt
  differ_later g h (x ∷ groups) other up later = (
    λ same.
        let old = sym (key_values keys g.0) ∙ same ∙ key_values keys x.0 in
        let alike = values_same (old_of keys) (vars_of lead) g.0 x.0 over old in
        let down : is_lt (keys_cmp lead g.0 h.0) ≡ false = ap is_lt (cmp_alike lead x.0 h.0 g.0 h.0 alike refl) ∙ later.0 in
        other (key_values keys g.0 ∙ values_same (vars_of lead) (old_of keys) g.0 h.0 under (tied_values lead g.0 h.0 down up) ∙ sym (key_values keys h.0)),
    differ_later g h groups other up later.1,
  )

  all_differ : (groups : List Group) → Apart (λ g h. IsUpTo g.0 h.0) groups → ((k : ℕ) (d : Group) → k + 1 < length groups → Differ (get_or groups k d) (get_or groups (k + 1) d)) → Apart Differ groups
  all_differ [] up next = tt
  all_differ (g ∷ []) up next = (tt, tt)
  all_differ (g ∷ h ∷ groups) up next =
      let first : Differ g h = next zero g (omega arith) in
      ((first, differ_later g h groups first up.0.0 up.1.0), all_differ (h ∷ groups) up.1 (λ k d lt. let e : suc k + 1 ≡ suc (k + 1) = omega arith in subst (λ (m : ℕ). Differ (get_or (h ∷ groups) k d) (get_or (g ∷ h ∷ groups) m d)) e (next (suc k) d (omega arith))))

  stretches_group : (rows : List Env) (groups : List Group) → IsSorted (keys_cmp lead) rows → AreStretches keys rows groups → IsGrouping keys rows groups
  stretches_group rows groups sorted stretches = record {
    moved = IsPermutation-same rows (flat_map rows_in groups) stretches.all;
    alike = stretches.alike;
    apart = pairs_from_apart Differ groups (all_differ groups (apart_heads IsUpTo groups (subst (Apart IsUpTo) stretches.all (rises lead rows sorted))) stretches.apart);
  }

  pub grouped_each : (inner : Plan) (passing : Bool) (sets : Sets) (vars : List Var) (input parts : Parts) → AllByRecursion (IsSorted (keys_cmp lead)) input
      → AllZip (IsPreGrouped keys inner passing sets vars) input parts → AllZip (IsGrouped keys inner passing sets vars) input parts
  grouped_each inner passing sets vars [] [] sorted z = tt
  grouped_each inner passing sets vars [] (out ∷ parts) sorted z = absurd z
  grouped_each inner passing sets vars (rows ∷ input) [] sorted z = absurd z
  grouped_each inner passing sets vars (rows ∷ input) (out ∷ parts) sorted z =
      ((z.0.0, out, stretches_group rows z.0.0 sorted.0 z.0.1, z.0.2, IsPermutation-refl out), grouped_each inner passing sets vars input parts sorted.1 z.1)

-- the rows of each part stand in the order of its keys, where there are any
sorted_by : (order : Local) (input : Parts) → HasLocal order input → All (IsSorted (keys_cmp (keys_in order))) input
unfolding HasLocal
sorted_by O.None input h = λ k d lt j e low high. refl
sorted_by (O.Order keys) input h = h

pub pre_grouped_parts : (keys : List (Var × Var)) (inner : Plan) (passing : Bool) (sets : Sets) (vars : List Var) (order : Local) (input parts : Parts) → is_grouped keys order ≡ true → HasLocal order input
    → Serves (N.Keyed (old_of keys)) input → AllZip (IsPreGrouped keys inner passing sets vars) input parts → IsGrouped keys inner passing sets vars (flat_map (λ (xs : List Env). xs) input) (flat_map (λ (xs : List Env). xs) parts)
pre_grouped_parts keys inner passing sets vars order input parts begins local served z =
    let m = length (firsts (map (λ v. v.name) (old_of keys))) in
    let lead = take m (keys_in order) in
    let over = live_from (old_of keys) (leading keys order) (and_left (are_among (old_of keys) (leading keys order)) (are_among (leading keys order) (old_of keys)) begins) in
    let under = live_from (leading keys order) (old_of keys) (and_right (are_among (old_of keys) (leading keys order)) (are_among (leading keys order) (old_of keys)) begins) in
    let sorted = recursion_from_All (IsSorted (keys_cmp lead)) input (λ k d lt. prefix_sorted m (keys_in order) (get_or input k d) (sorted_by order input local k d lt)) in
    grouped_parts keys inner passing sets vars input parts served (grouped_each keys lead over under inner passing sets vars input parts sorted z)

-- rows that are sorted by the old keys as they stand, where some may stand twice
ascending_vars : (keys : List (Var × Var)) → vars_of (ascending keys) ≡ old_of keys
ascending_vars [] = refl
ascending_vars (k ∷ keys) = ap (λ (vs : List Var). k.1 ∷ vs) (ascending_vars keys)

live_itself : (vars : List Var) → AreLive vars vars
live_itself [] = tt
live_itself (v ∷ vars) = (at_head v vars, live_more vars (v ∷ vars) vars (λ q among. by_cases (pointwise nat_eq v.name q) (λ t. ap (λ b. b || is_among vars q) t) (λ f. ap (λ b. b || is_among vars q) f ∙ among)) (live_itself vars))

pub ascending_grouped_parts : (keys : List (Var × Var)) (inner : Plan) (passing : Bool) (sets : Sets) (vars : List Var) (input parts : Parts) → HasLocal (O.Order (ascending keys)) input
    → Serves (N.Keyed (old_of keys)) input → AllZip (IsPreGrouped keys inner passing sets vars) input parts → IsGrouped keys inner passing sets vars (flat_map (λ (xs : List Env). xs) input) (flat_map (λ (xs : List Env). xs) parts)
unfolding HasLocal
ascending_grouped_parts keys inner passing sets vars input parts local served z =
    let same = sym (ascending_vars keys) in
    let over = subst (AreLive (old_of keys)) same (live_itself (old_of keys)) in
    let under = subst (λ (vs : List Var). AreLive vs (old_of keys)) same (live_itself (old_of keys)) in
    let sorted = recursion_from_All (IsSorted (keys_cmp (ascending keys))) input local in
    grouped_parts keys inner passing sets vars input parts served (grouped_each keys (ascending keys) over under inner passing sets vars input parts sorted z)
