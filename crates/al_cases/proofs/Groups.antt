-- The cases of groups.
use Rattle.std.proofs.Common.{◌≡◌, ◌≢◌, ℕ, false, true≢false, List, [], ◌∷◌, ◌++◌, flat_map, length, get_or, inl, inr, ◌⊎◌, refl, ap, sym, subst, ◌∙◌, arith, append-nil, length-append}
use Rattle.std.specs.Int.{int_wrap}
use Rattle.std.specs.List.{All, AllZip}
use Rattle.std.specs.List.Sorted.{IsPermutation}
use Rattle.std.proofs.lemmas.List.Elements.{All-from_recursion, All-cons, All-contains, Contains-append_right}
use Rattle.std.proofs.lemmas.List.Sorted.{IsPermutation-refl, IsPermutation-sym, IsPermutation-trans, length_permutation, All-permutation}
use Rattle.al_value.specs.declared.value.Value.{Value}
use Rattle.al_value.specs.declared.value.Value.TheVariants as V
use Rattle.al_func.specs.Func.{is_null}
use Rattle.al_agg.specs.Agg.{agg}
use Rattle.al_plan.specs.declared.expr.Var.{Var}
use Rattle.al_plan.specs.declared.plan.Plan.TheVariants as P
use Rattle.al_plan.specs.Eval.{Env, bind}
use Rattle.al_plan.specs.Calls.{agg_call}
use Rattle.al_plan.specs.Allows.{Sets, Allows, live, nulls, with_new, agg_row, key_of, new_of, Group, rows_in, IsGrouping, Gives}
use Rattle.al_plan.proofs.PlanLaws.{allows_Nested, from_Nested, allows_Group, from_Group, allows_Aggregate, from_Aggregate}
use Rattle.al_plan.proofs.Moves.{IsPermutation-one, IsPermutation-turn, pairs_from_apart}
use Rattle.al_cases.specs.Cases.{a, b, n, int, row, one_column, scan_a, counting, NullIsAGroup, GroupForEachKey, NoRowsNoGroup}
use Rattle.al_cases.proofs.Simple.{scanned, of_scan, row-at, two_orders, empty_input, no_values, all_null}
use Rattle.al_cases.proofs.Joined.{beside-rows}
use Rattle.al_cases.proofs.Nests.{count, same_count, the_one}

abbrev keys : List (Var × Var)
keys = (b, a) ∷ []

abbrev GroupRow : Sets → Group → Env → Type 0
GroupRow sets g out = Gives (Allows (counting P.Nested)) false sets (live scan_a []) (rows_in g) (λ inner. out ≡ with_new (new_of keys) (key_of keys g.0) inner)

-- the row of a group
abbrev keyed : Value → ℕ → Env
keyed v k = bind (b ∷ n ∷ []) (v ∷ int k ∷ [])

key-row : (v : Value) → key_of keys (row a v) ≡ v ∷ []
key-row v = ap (λ (w : Value). w ∷ []) (row-at v)

key_known : (v : Value) (r : Env) → r ≡ row a v → key_of keys r ≡ v ∷ []
key_known v r e = ap (key_of keys) e ∙ key-row v

-- a group's row, where as many rows as `rows` count to k
module _ (sets : Sets) (v : Value) (k : ℕ) (rows : List Env) (counted : agg_row count rows ≡ row n (int k)) (g : Group) (key : g.0 ≡ row a v) (long : length (rows_in g) ≡ length rows) where
  with_key : with_new (b ∷ []) (key_of keys g.0) (row n (int k)) ≡ keyed v k
  with_key = ap (λ (vs : List Value). with_new (b ∷ []) vs (row n (int k))) (key_known v g.0 key) ∙ beside-rows b n v (int k)

  pub group_gives : GroupRow sets g (keyed v k)
  group_gives =
      let given = live scan_a [] in
      let made = allows_Aggregate count P.Nested false sets given (rows_in g) _ (rows_in g, allows_Nested false sets given (rows_in g) (rows_in g) (IsPermutation-refl (rows_in g)), ap (λ (r : Env). r ∷ []) (sym (same_count (rows_in g) rows long ∙ counted))) in
      (row n (int k), made, sym with_key)

  pub group_makes : (out : Env) → GroupRow sets g out → out ≡ keyed v k
  group_makes out h =
      let given = live scan_a [] in
      let over = from_Aggregate count P.Nested false sets given (rows_in g) (h.0 ∷ []) h.1 in
      let moved = length_permutation _ _ (from_Nested false sets given (rows_in g) over.0 over.1) in
      let inner = the_one h.0 (agg_row count over.0) over.2 ∙ same_count over.0 rows (moved ∙ long) ∙ counted in
      h.2 ∙ ap (λ (r : Env). with_new (b ∷ []) (key_of keys g.0) r) inner ∙ with_key

one_row : agg_row count (nulls ∷ []) ≡ row n (int 1)
unfolding agg_call agg int_wrap
one_row = refl

two_rows : agg_row count (nulls ∷ nulls ∷ []) ≡ row n (int 2)
unfolding agg_call agg int_wrap
two_rows = refl

-- ---- two rows with NULL

abbrev IsNull : Env → Type 0
IsNull r = r ≡ row a V.Null

abbrev null_row : Env
null_row = keyed V.Null 2

abbrev sets_null : Sets
sets_null = one_column (V.Null ∷ V.Null ∷ [])

only_null : (groups : List Group) (out rows : List Env) → IsPermutation no_values rows → IsGrouping keys rows groups → AllZip (GroupRow sets_null) groups out → out ≡ null_row ∷ []
only_null [] out rows h g zip = absurd (omega (arith, length_permutation _ _ h, length_permutation _ _ g.moved))
only_null (g ∷ []) [] rows h is zip = absurd zip
only_null (g ∷ []) (x ∷ []) rows h is zip =
    let moved = IsPermutation-trans no_values rows (rows_in g ++ []) h is.moved in
    let alike = All-permutation IsNull no_values (rows_in g ++ []) moved all_null in
    let long = ap length (sym (append-nil (rows_in g))) ∙ length_permutation no_values (rows_in g ++ []) moved in
    ap (λ (r : Env). r ∷ []) (group_makes sets_null V.Null 2 (nulls ∷ nulls ∷ []) two_rows g (alike 0 nulls (omega arith)) long x zip.0)
only_null (g ∷ []) (x ∷ y ∷ out) rows h is zip = absurd zip.1
only_null (g ∷ k ∷ groups) out rows h is zip =
    let all = flat_map rows_in (g ∷ k ∷ groups) in
    let alike = All-permutation IsNull no_values all (IsPermutation-trans no_values rows all h is.moved) all_null in
    let second : IsNull k.0 = All-contains IsNull all k.0 alike (Contains-append_right (rows_in g) (flat_map rows_in (k ∷ groups)) k.0 (0, omega arith, refl)) in
    absurd (is.apart 0 1 g (omega arith) (omega arith) (key_known V.Null g.0 (alike 0 nulls (omega arith)) ∙ sym (key_known V.Null k.0 second)))

abbrev null_group : Group
null_group = (row a V.Null, row a V.Null ∷ [])

one_group : IsGrouping keys no_values (null_group ∷ [])
one_group = record {
  moved = IsPermutation-refl no_values;
  alike = All-from_recursion (λ (g : Group). All (λ r. key_of keys r ≡ key_of keys g.0) g.1) (null_group ∷ []) (All-from_recursion (λ (r : Env). key_of keys r ≡ key_of keys (row a V.Null)) (row a V.Null ∷ []) (refl, tt), tt);
  apart = λ i j d lt low. absurd (omega arith);
}

pub null_is_a_group : NullIsAGroup
null_is_a_group = record {
  allowed = allows_Group keys (counting P.Nested) scan_a false sets_null [] [] _ (
    no_values,
    scanned sets_null no_values (IsPermutation-refl no_values),
    (
      null_group ∷ [],
      null_row ∷ [],
      one_group,
      (group_gives sets_null V.Null 2 (nulls ∷ nulls ∷ []) two_rows null_group refl refl, tt),
      IsPermutation-refl (null_row ∷ []),
    ),
  );
  no_other = λ others h.
      let over = from_Group keys (counting P.Nested) scan_a false sets_null [] [] others h in
      let cut = over.2 in
      let one = only_null cut.0 cut.1 over.0 (of_scan sets_null over.0 over.1) cut.2 cut.3 in
      IsPermutation-one null_row others (subst (λ (rows : List Env). IsPermutation rows others) one cut.4);
}

-- ---- NULL and 1

abbrev sets_both : Sets
sets_both = one_column (V.Null ∷ int 1 ∷ [])

abbrev both : List Env
both = row a V.Null ∷ row a (int 1) ∷ []

abbrev both_rows : List Env
both_rows = keyed V.Null 1 ∷ keyed (int 1) 1 ∷ []

keys_differ : key_of keys (row a V.Null) ≡ key_of keys (row a (int 1)) → ⊥
keys_differ e = true≢false (ap (λ (vs : List Value). is_null (get_or vs 0 V.Null)) (sym (key-row V.Null) ∙ e ∙ key-row (int 1)))

-- one group has one key
not_one_group : (g : Group) → All (λ r. key_of keys r ≡ key_of keys g.0) g.1 → IsPermutation both (rows_in g ++ []) → ⊥
not_one_group g alike moved =
    let Same : Env → Type 0 = (λ r. key_of keys r ≡ key_of keys g.0) in
    let whole = subst (λ (rows : List Env). IsPermutation both rows) (append-nil (rows_in g)) moved in
    let all = All-permutation Same (rows_in g) both (IsPermutation-sym both (rows_in g) whole) (All-cons Same g.0 g.1 refl alike) in
    keys_differ (all 0 nulls (omega arith) ∙ sym (all 1 nulls (omega arith)))

made_one : (v : Value) (p : Env) (out : Env) → p ≡ row a v → GroupRow sets_both (p, []) out → out ≡ keyed v 1
made_one v p out e h = group_makes sets_both v 1 (nulls ∷ []) one_row (p, []) e refl out h

head_is : (x y z w : Env) → x ∷ y ∷ [] ≡ z ∷ w ∷ [] → (x ≡ z) × (y ≡ w)
head_is x y z w e = (ap (λ (rows : List Env). get_or rows 0 nulls) e, ap (λ (rows : List Env). get_or rows 1 nulls) e)

two_groups : (p q x y : Env) (ps qs : List Env) → IsPermutation both ((p ∷ ps) ++ ((q ∷ qs) ++ [])) → GroupRow sets_both (p, ps) x → GroupRow sets_both (q, qs) y → IsPermutation both_rows (x ∷ y ∷ [])
two_groups p q x y (r ∷ ps) qs moved f g = absurd (omega (arith, length_permutation _ _ moved, length-append ps ((q ∷ qs) ++ [])))
two_groups p q x y [] (r ∷ qs) moved f g = absurd (omega (arith, length_permutation _ _ moved))
two_groups p q x y [] [] moved f g = placed (two_orders (row a V.Null) (row a (int 1)) (p ∷ q ∷ []) moved)
  where
    placed : (p ∷ q ∷ [] ≡ both) ⊎ (p ∷ q ∷ [] ≡ row a (int 1) ∷ row a V.Null ∷ []) → IsPermutation both_rows (x ∷ y ∷ [])
    placed (inl e) =
        let at = head_is p q _ _ e in
        subst (λ (rows : List Env). IsPermutation both_rows rows) (λ i. sym (made_one V.Null p x at.0 f) i ∷ sym (made_one (int 1) q y at.1 g) i ∷ []) (IsPermutation-refl both_rows)
    placed (inr e) =
        let at = head_is p q _ _ e in
        subst (λ (rows : List Env). IsPermutation both_rows rows) (λ i. sym (made_one (int 1) p x at.0 f) i ∷ sym (made_one V.Null q y at.1 g) i ∷ []) (IsPermutation-turn (keyed V.Null 1) (keyed (int 1) 1) [])

each_key : (groups : List Group) (out rows : List Env) → IsPermutation both rows → IsGrouping keys rows groups → AllZip (GroupRow sets_both) groups out → IsPermutation both_rows out
each_key [] out rows h is zip = absurd (omega (arith, length_permutation _ _ h, length_permutation _ _ is.moved))
each_key (g ∷ []) out rows h is zip = absurd (not_one_group g (is.alike 0 g (omega arith)) (IsPermutation-trans both rows (rows_in g ++ []) h is.moved))
each_key (g ∷ k ∷ []) [] rows h is zip = absurd zip
each_key (g ∷ k ∷ []) (x ∷ []) rows h is zip = absurd zip.1
each_key (g ∷ k ∷ []) (x ∷ y ∷ []) rows h is zip = two_groups g.0 k.0 x y g.1 k.1 (IsPermutation-trans both rows _ h is.moved) zip.0 zip.1.0
each_key (g ∷ k ∷ []) (x ∷ y ∷ z ∷ out) rows h is zip = absurd zip.1.1
each_key (g ∷ k ∷ m ∷ groups) out rows h is zip =
    let rest = flat_map rows_in groups in
    absurd (omega (arith, length_permutation _ _ h, length_permutation _ _ is.moved, length-append g.1 (rows_in k ++ (rows_in m ++ rest)), length-append k.1 (rows_in m ++ rest)))

abbrev single : Value → Group
single v = (row a v, [])

split_groups : IsGrouping keys both (single V.Null ∷ single (int 1) ∷ [])
split_groups = record {
  moved = IsPermutation-refl both;
  alike = All-from_recursion (λ (g : Group). All (λ r. key_of keys r ≡ key_of keys g.0) g.1) (single V.Null ∷ single (int 1) ∷ []) ((λ k d lt. absurd (omega arith)), ((λ k d lt. absurd (omega arith)), tt));
  apart = pairs_from_apart (λ (g h : Group). key_of keys g.0 ≢ key_of keys h.0) (single V.Null ∷ single (int 1) ∷ []) ((keys_differ, tt), (tt, tt));
}

pub group_for_each_key : GroupForEachKey
group_for_each_key = record {
  allowed = λ others h. allows_Group keys (counting P.Nested) scan_a false sets_both [] [] others (
    both,
    scanned sets_both both (IsPermutation-refl both),
    (
      single V.Null ∷ single (int 1) ∷ [],
      both_rows,
      split_groups,
      (group_gives sets_both V.Null 1 (nulls ∷ []) one_row (single V.Null) refl refl, (group_gives sets_both (int 1) 1 (nulls ∷ []) one_row (single (int 1)) refl refl, tt)),
      h,
    ),
  );
  no_other = λ others h.
      let over = from_Group keys (counting P.Nested) scan_a false sets_both [] [] others h in
      let cut = over.2 in
      IsPermutation-trans both_rows cut.1 others (each_key cut.0 cut.1 over.0 (of_scan sets_both over.0 over.1) cut.2 cut.3) cut.4;
}

-- ---- no rows

no_groups : (groups : List Group) (out rows : List Env) → IsPermutation [] rows → IsGrouping keys rows groups → AllZip (GroupRow (one_column [])) groups out → out ≡ []
no_groups [] [] rows h is zip = refl
no_groups [] (x ∷ out) rows h is zip = absurd zip
no_groups (g ∷ groups) out rows h is zip = absurd (omega (arith, length_permutation _ _ h, length_permutation _ _ is.moved))

pub no_rows_no_group : NoRowsNoGroup
no_rows_no_group = record {
  allowed = allows_Group keys (counting P.Nested) scan_a false _ [] [] _
      ([], scanned _ [] (IsPermutation-refl []), ([], [], record { moved = IsPermutation-refl []; alike = λ k d lt. absurd (omega arith); apart = λ i j d lt low. absurd (omega arith) }, tt, IsPermutation-refl []));
  no_other = λ others h.
      let over = from_Group keys (counting P.Nested) scan_a false _ [] [] others h in
      let cut = over.2 in
      let none = no_groups cut.0 cut.1 over.0 (of_scan _ over.0 over.1) cut.2 cut.3 in
      empty_input others (subst (λ (rows : List Env). IsPermutation rows others) none cut.4);
}
