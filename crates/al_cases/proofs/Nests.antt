-- The cases of assign, generators and nested plans.
use Rattle.std.proofs.Common.{◌≡◌, true, false, List, [], ◌∷◌, ◌++◌, map, flat_map, length, get_or, refl, ap, sym, subst, ◌∙◌, arith}
use Rattle.std.specs.Int.{int_wrap}
use Rattle.std.specs.List.{AllZip}
use Rattle.std.specs.List.Sorted.{IsPermutation}
use Rattle.std.proofs.lemmas.List.Sorted.{IsPermutation-refl, IsPermutation-trans, length_permutation}
use Rattle.al_value.specs.declared.value.Value.{Value}
use Rattle.al_value.specs.declared.value.Value.TheVariants as V
use Rattle.al_func.specs.Func.{less}
use Rattle.al_func.specs.Items.{split}
use Rattle.al_agg.specs.Agg.{agg}
use Rattle.al_agg.specs.declared.agg.Agg.TheVariants as A
use Rattle.al_plan.specs.declared.expr.Var.{Var}
use Rattle.al_plan.specs.declared.plan.AggCall.{AggCall}
use Rattle.al_plan.specs.declared.plan.AggCall.TheVariants as C
use Rattle.al_plan.specs.declared.plan.Plan.{Plan}
use Rattle.al_plan.specs.declared.plan.Plan.TheVariants as P
use Rattle.al_plan.specs.Eval.{Env, bind}
use Rattle.al_plan.specs.Calls.{agg_call, items}
use Rattle.al_plan.specs.Allows.{Sets, Allows, live, ordered, IsOrderOf, nulls, beside, with_new, assigned, expanded, agg_row, Gives}
use Rattle.al_plan.proofs.EvalLaws.{eval-Var, eval-Lit}
use Rattle.al_plan.proofs.PlanLaws.{ordered-Scan, ordered-Order, allows_Order, from_Order, ordered-Nested, live-Aggregate, allows_Nested, from_Nested, allows_Unnest, from_Unnest, allows_Subplan, from_Subplan, allows_Assign, from_Assign, allows_Aggregate, from_Aggregate}
use Rattle.al_plan.proofs.Moves.{IsPermutation-one}
use Rattle.al_cases.specs.Cases.{t, a, b, n, int, row, one_column, scan_a, below, counting, Answers, by_n, ann, made, by_a, UnnestGivesPieces, UnnestKeepsOrder, SubplanCounts, AssignAdds}
use Rattle.al_cases.proofs.Simple.{scanned, of_scan, row-at, eval-below}
use Rattle.al_cases.proofs.Joined.{beside-rows}

-- ---- assign

assign_row : assigned ((b, below 15) ∷ []) (row a (int 1)) ≡ made (V.Bool true) (int 1)
assign_row = ap (λ (v : Value). beside (b ∷ []) (row b v) (row a (int 1))) (eval-below 15 (row a (int 1)) ∙ ap (λ v. less v (int 15)) (row-at (int 1))) ∙ beside-rows b a (V.Bool true) (int 1)

abbrev ones : List Env
ones = row a (int 1) ∷ []

pub assign_adds : AssignAdds
assign_adds = record {
  allowed = allows_Assign ((b, below 15) ∷ []) scan_a false _ [] [] _ (ones, scanned _ ones (IsPermutation-refl ones), ap (λ (r : Env). r ∷ []) (sym assign_row));
  no_other = λ others h.
      let over = from_Assign ((b, below 15) ∷ []) scan_a false _ [] [] others h in
      over.2 ∙ ap (map (assigned ((b, below 15) ∷ []))) (IsPermutation-one (row a (int 1)) over.0 (of_scan _ over.0 over.1)) ∙ ap (λ (r : Env). r ∷ []) assign_row;
}

-- ---- unnest

abbrev sets_ann : Sets
sets_ann = one_column (ann ∷ [])

abbrev anns : List Env
anns = row a ann ∷ []

ann_items : items by_n (row a ann) ≡ V.Text (65 ∷ []) ∷ V.Text [] ∷ V.Text [] ∷ []
unfolding items
ann_items = λ i. split ((eval-Var a (row a ann) ∙ row-at ann) i) (eval-Lit (V.Text (110 ∷ [])) (row a ann) i)

abbrev pieces_of_ann : List Env
pieces_of_ann = made (V.Text (65 ∷ [])) ann ∷ made (V.Text []) ann ∷ made (V.Text []) ann ∷ []

ann_rows : flat_map (expanded b by_n) anns ≡ pieces_of_ann
ann_rows = ap (λ (xs : List Value). map (λ x. with_new (b ∷ []) (x ∷ []) (row a ann)) xs ++ []) ann_items
    ∙ (λ i. beside-rows b a (V.Text (65 ∷ [])) ann i ∷ beside-rows b a (V.Text []) ann i ∷ beside-rows b a (V.Text []) ann i ∷ [])

unordered : ordered scan_a ≡ false
unordered = ordered-Scan t (a ∷ [])

pub unnest_gives_pieces : UnnestGivesPieces
unnest_gives_pieces = record {
  allowed = λ others h. allows_Unnest b by_n scan_a false _ [] [] others
      (anns, scanned _ anns (IsPermutation-refl anns), subst (λ o. IsOrderOf o (flat_map (expanded b by_n) anns) others) (sym unordered) (subst (λ (rows : List Env). IsPermutation rows others) (sym ann_rows) h));
  no_other = λ others h.
      let over = from_Unnest b by_n scan_a false _ [] [] others h in
      let moved = subst (λ o. IsOrderOf o (flat_map (expanded b by_n) over.0) others) unordered over.2 in
      let known = subst (λ (rows : List Env). IsPermutation (flat_map (expanded b by_n) rows) others) (IsPermutation-one (row a ann) over.0 (of_scan _ over.0 over.1)) moved in
      subst (λ (rows : List Env). IsPermutation rows others) ann_rows known;
}

abbrev sorted_a : Plan
sorted_a = P.Order (by_a false) scan_a

-- what has an order is ordered
in_order : ordered sorted_a ≡ true
in_order = ordered-Order (by_a false) scan_a

ann_sorted : Answers sets_ann sorted_a anns
ann_sorted = allows_Order (by_a false) scan_a false sets_ann [] [] anns (anns, scanned sets_ann anns (IsPermutation-refl anns), (IsPermutation-refl anns, λ k d low high. absurd (omega arith)))

pub unnest_keeps_order : UnnestKeepsOrder
unnest_keeps_order = record {
  allowed = allows_Unnest b by_n sorted_a false sets_ann [] [] _ (anns, ann_sorted, subst (λ o. IsOrderOf o (flat_map (expanded b by_n) anns) pieces_of_ann) (sym in_order) (sym ann_rows));
  no_other = λ others h.
      let over = from_Unnest b by_n sorted_a false sets_ann [] [] others h in
      let under = from_Order (by_a false) scan_a false sets_ann [] [] over.0 over.1 in
      let only = IsPermutation-one (row a ann) over.0 (IsPermutation-trans anns under.0 over.0 (of_scan sets_ann under.0 under.1) under.2.0) in
      subst (λ o. IsOrderOf o (flat_map (expanded b by_n) over.0) others) in_order over.2 ∙ ap (flat_map (expanded b by_n)) only ∙ ann_rows;
}

-- ---- counts

abbrev pub count : List (Var × AggCall)
count = (n, C.CountAll) ∷ []

alike_nulls : (xs ys : List Env) → length xs ≡ length ys → map (λ (r : Env). V.Null) xs ≡ map (λ (r : Env). V.Null) ys
alike_nulls [] [] e = refl
alike_nulls [] (y ∷ ys) e = absurd (omega arith)
alike_nulls (x ∷ xs) [] e = absurd (omega arith)
alike_nulls (x ∷ xs) (y ∷ ys) e = ap (λ vs. V.Null ∷ vs) (alike_nulls xs ys (omega arith))

pub same_count : (xs ys : List Env) → length xs ≡ length ys → agg_row count xs ≡ agg_row count ys
unfolding agg_call
same_count xs ys e = ap (λ vs. row n (agg A.CountAll vs)) (alike_nulls xs ys e)

three_rows : agg_row count (nulls ∷ nulls ∷ nulls ∷ []) ≡ row n (int 3)
unfolding agg_call agg int_wrap
three_rows = refl

pub the_one : (x y : Env) → x ∷ [] ≡ y ∷ [] → x ≡ y
the_one x y e = ap (λ (rows : List Env). get_or rows 0 nulls) e

-- ---- subplan

abbrev nested : Plan
nested = P.Unnest b by_n P.Nested

nested_rows : (given : List Var) (rows : List Env) → Allows nested false sets_ann given anns rows → length rows ≡ 3
nested_rows given rows h =
    let over = from_Unnest b by_n P.Nested false sets_ann given anns rows h in
    let moved = subst (λ o. IsOrderOf o (flat_map (expanded b by_n) over.0) rows) ordered-Nested over.2 in
    let known = subst (λ (input : List Env). IsPermutation (flat_map (expanded b by_n) input) rows) (IsPermutation-one (row a ann) over.0 (from_Nested false sets_ann given anns over.0 over.1)) moved in
    length_permutation _ _ (subst (λ (input : List Env). IsPermutation input rows) ann_rows known)

nested_gives : (given : List Var) → Allows nested false sets_ann given anns pieces_of_ann
nested_gives given = allows_Unnest b by_n P.Nested false sets_ann given anns _
    (anns, allows_Nested false sets_ann given anns anns (IsPermutation-refl anns), subst (λ o. IsOrderOf o (flat_map (expanded b by_n) anns) pieces_of_ann) (sym ordered-Nested) (subst (λ (rows : List Env). IsPermutation rows pieces_of_ann) (sym ann_rows) (IsPermutation-refl pieces_of_ann)))

counted_ann : (given : List Var) (inner : Env) → Allows (counting nested) false sets_ann given anns (inner ∷ []) → inner ≡ row n (int 3)
counted_ann given inner h =
    let over = from_Aggregate count nested false sets_ann given anns (inner ∷ []) h in
    the_one inner (agg_row count over.0) over.2 ∙ same_count over.0 (nulls ∷ nulls ∷ nulls ∷ []) (nested_rows given over.0 over.1) ∙ three_rows

counts_ann : (given : List Var) → Allows (counting nested) false sets_ann given anns (row n (int 3) ∷ [])
counts_ann given = allows_Aggregate count nested false sets_ann given anns _
    (pieces_of_ann, nested_gives given, ap (λ (r : Env). r ∷ []) (sym (same_count pieces_of_ann (nulls ∷ nulls ∷ nulls ∷ []) refl ∙ three_rows)))

abbrev ann_row : Env
ann_row = bind (n ∷ a ∷ []) (int 3 ∷ ann ∷ [])

beside_count : (given : List Var) → beside (live (counting nested) given) (row n (int 3)) (row a ann) ≡ ann_row
beside_count given = ap (λ (vars : List Var). beside vars (row n (int 3)) (row a ann)) (live-Aggregate count nested given) ∙ beside-rows n a (int 3) ann

abbrev SubRow : Env → Env → Type 0
SubRow r out = Gives (Allows (counting nested)) false sets_ann (live scan_a []) (r ∷ []) (λ inner. out ≡ beside (live (counting nested) (live scan_a [])) inner r)

only_ann : (rows : List Env) → AllZip SubRow anns rows → rows ≡ ann_row ∷ []
only_ann [] h = absurd h
only_ann (x ∷ []) h =
    let given = live scan_a [] in
    ap (λ (r : Env). r ∷ []) (h.0.2 ∙ ap (λ (inner : Env). beside (live (counting nested) given) inner (row a ann)) (counted_ann given h.0.0 h.0.1) ∙ beside_count given)
only_ann (x ∷ y ∷ rows) h = absurd h.1

pub subplan_counts : SubplanCounts
subplan_counts = record {
  allowed = allows_Subplan (counting nested) scan_a false sets_ann [] [] _
      (anns, scanned sets_ann anns (IsPermutation-refl anns), ((row n (int 3), counts_ann (live scan_a []), sym (beside_count (live scan_a []))), tt));
  no_other = λ others h.
      let over = from_Subplan (counting nested) scan_a false sets_ann [] [] others h in
      only_ann others (subst (λ (input : List Env). AllZip SubRow input others) (IsPermutation-one (row a ann) over.0 (of_scan sets_ann over.0 over.1)) over.2);
}
