-- What the rows that are computed are at each operator.
use Rattle.std.proofs.Common.{◌≡◌, ◌≢◌, ◌+◌, ℕ, Bool, true, false, List, [], ◌∷◌, ◌++◌, map, filter, flat_map, take, drop, length, length-append, refl, ap, sym, subst, ◌∙◌}
use Rattle.std.specs.List.{All, AllByRecursion, AllPairs, Contains}
use Rattle.std.specs.List.Sorted.{IsPermutation, IsSorted}
use Rattle.std.proofs.lemmas.List.{length-map, map-append, take-map, drop-map}
use Rattle.std.proofs.lemmas.List.Sorted.{IsPermutation-refl, IsPermutation-map, All-permutation}
use Rattle.std.proofs.lemmas.List.Elements.{All-append, All-filter, All-map, All-take, All-drop, All-weaker, All-contains, recursion_from_All}
use Rattle.al_value.specs.declared.value.Value.{Value}
use Rattle.al_value.specs.declared.value.Value.TheVariants as V
use Rattle.al_plan.specs.declared.expr.Var.{Var}
use Rattle.al_plan.specs.declared.expr.Expr.{Expr}
use Rattle.al_plan.specs.declared.plan.OrderKey.{OrderKey}
use Rattle.al_plan.specs.declared.plan.AggCall.{AggCall}
use Rattle.al_plan.specs.declared.plan.Generator.{Generator}
use Rattle.al_plan.specs.declared.plan.Plan.{Plan}
use Rattle.al_plan.specs.declared.plan.Plan.TheVariants as P
use Rattle.al_plan.specs.Eval.{Bytes, Env, bind, eval, holds}
use Rattle.al_plan.specs.Calls.{agg_call, items}
use Rattle.al_plan.specs.Allows.{Sets, live, ordered, cut, assigned, expanded, renamed, matches, or_alone, pairs, left_pairs, beside, nulls, keys_cmp, with_new, IsOrderOf}
use Rattle.al_plan.specs.Refines.{NoTwice}
use Rattle.al_plan.proofs.PlanLaws.{allows_Scan, allows_Empty, allows_Nested, allows_Assign, allows_Select, allows_Project, allows_Unnest, allows_Join, allows_LeftJoin, allows_Distinct, allows_Union, allows_Aggregate, allows_Order, allows_Limit, allows_Check, allows_Result}
use Rattle.al_plan.proofs.RowLaws.{map-filter, bind-cut, IsSorted-map}
use Rattle.al_plan.proofs.Makes.{Disjoint}
use Rattle.al_plan.proofs.Moves.{IsPermutation-same}
use Rattle.al_plain.specs.Rows.{Cells, values_of, assigned_row, AreDistinct, with_each, expanded_row, before_each, pairs_of, padded_row, rows_or, pairs_or_padded}
use Rattle.al_plain.specs.Gives.{AreWide, IsGiven}
use Rattle.al_plain.proofs.Lists.{map-through, flat-through, each_map, each_flat, each_one, Contains-map, pairs-map}
use Rattle.al_plain.proofs.BindLaws.{bind-append, bind-after, bind-nulls, bind-none, bind-injective}

module _ (sets : Sets) (given : List Var) (outer : List Cells) where
  abbrev Given : Plan → List Var → List Cells → Type 0
  Given p vars rows = IsGiven p sets given outer vars rows

  abbrev IsAsWide : List Var → Cells → Type 0
  IsAsWide vars r = length r ≡ length vars

  -- rows that are equal to rows that are given
  same : (p : Plan) (vars : List Var) (rows others : List Cells) → others ≡ rows → Given p vars rows → Given p vars others
  same p vars rows others e h = subst (Given p vars) (sym e) h

  pub gives_Scan : (set : Bytes) (vars : List Var) → AreWide vars (sets set) → Given (P.Scan set vars) vars (sets set)
  gives_Scan set vars w = record { allowed = allows_Scan set vars false sets given _ _ (IsPermutation-refl _); wide = w }

  pub gives_Empty : Given P.Empty [] ([] ∷ [])
  gives_Empty = record { allowed = allows_Empty false sets given _ _ (ap (λ (r : Env). r ∷ []) bind-none); wide = each_one (IsAsWide []) [] refl }

  pub gives_Nested : AreWide given outer → Given P.Nested given outer
  gives_Nested w = record { allowed = allows_Nested false sets given _ _ (IsPermutation-refl _); wide = w }

  bind-assigned : (made : List (Var × Expr)) (vars : List Var) → Disjoint vars (map (λ m. m.0) made) → (r : Cells) → IsAsWide vars r → bind (vars ++ map (λ m. m.0) made) (assigned_row made vars r) ≡ assigned made (bind vars r)
  unfolding assigned_row
  bind-assigned made vars d r w = bind-after vars (map (λ m. m.0) made) r (map (λ m. eval m.1 (bind vars r)) made) w d

  wide-assigned : (made : List (Var × Expr)) (vars : List Var) (r : Cells) → IsAsWide vars r → IsAsWide (vars ++ map (λ m. m.0) made) (assigned_row made vars r)
  unfolding assigned_row
  wide-assigned made vars r w = simp (length-append, length-map) (ap (λ n. n + length made) w)

  pub gives_Assign : (made : List (Var × Expr)) (p : Plan) (vars : List Var) (rows : List Cells) → Given p vars rows → Disjoint vars (map (λ m. m.0) made) → Given (P.Assign made p) (vars ++ map (λ m. m.0) made) (map (assigned_row made vars) rows)
  gives_Assign made p vars rows h d = record {
    allowed = allows_Assign made p false sets given _ _ (map (bind vars) rows, h.allowed, map-through (IsAsWide vars) (bind (vars ++ map (λ m. m.0) made)) (bind vars) (assigned_row made vars) (assigned made) (bind-assigned made vars d) rows (recursion_from_All (IsAsWide vars) rows h.wide));
    wide = each_map (IsAsWide vars) (IsAsWide (vars ++ map (λ m. m.0) made)) (assigned_row made vars) (wide-assigned made vars) rows h.wide;
  }

  pub gives_Select : (c : Expr) (p : Plan) (vars : List Var) (rows : List Cells) → Given p vars rows → Given (P.Select c p) vars (filter (λ r. holds c (bind vars r)) rows)
  gives_Select c p vars rows h = record {
    allowed = allows_Select c p false sets given _ _ (map (bind vars) rows, h.allowed, map-filter (bind vars) (holds c) rows);
    wide = All-filter (λ r. holds c (bind vars r)) (IsAsWide vars) rows h.wide;
  }

  bind-values_of : (out vars : List Var) (r : Cells) → bind out (values_of out vars r) ≡ cut out (bind vars r)
  unfolding values_of
  bind-values_of out vars r = bind-cut out (bind vars r)

  wide-values_of : (out vars : List Var) (r : Cells) → IsAsWide out (values_of out vars r)
  unfolding values_of
  wide-values_of out vars r = length-map out (λ v. bind vars r v.name)

  map-values_of : (out vars : List Var) (rows : List Cells) → AllByRecursion (IsAsWide vars) rows → map (bind out) (map (values_of out vars) rows) ≡ map (cut out) (map (bind vars) rows)
  map-values_of out vars rows = map-through (IsAsWide vars) (bind out) (bind vars) (values_of out vars) (cut out) (λ r w. bind-values_of out vars r) rows

  pub gives_Project : (out : List Var) (p : Plan) (vars : List Var) (rows : List Cells) → Given p vars rows → Given (P.Project out p) out (map (values_of out vars) rows)
  gives_Project out p vars rows h = record {
    allowed = allows_Project out p false sets given _ _ (map (bind vars) rows, h.allowed, map-values_of out vars rows (recursion_from_All (IsAsWide vars) rows h.wide));
    wide = each_map (IsAsWide vars) (IsAsWide out) (values_of out vars) (λ r w. wide-values_of out vars r) rows h.wide;
  }

  pub gives_Result : (out : List Var) (p : Plan) (vars : List Var) (rows : List Cells) → Given p vars rows → Given (P.Result out p) out (map (values_of out vars) rows)
  gives_Result out p vars rows h = record {
    allowed = allows_Result out p false sets given _ _ (map (bind vars) rows, h.allowed, map-values_of out vars rows (recursion_from_All (IsAsWide vars) rows h.wide));
    wide = each_map (IsAsWide vars) (IsAsWide out) (values_of out vars) (λ r w. wide-values_of out vars r) rows h.wide;
  }

  pub gives_Order : (keys : List OrderKey) (p : Plan) (vars : List Var) (rows moved : List Cells) → Given p vars rows → IsPermutation rows moved → IsSorted (λ a b. keys_cmp keys (bind vars a) (bind vars b)) moved → Given (P.Order keys p) vars moved
  gives_Order keys p vars rows moved h same sorted = record {
    allowed = allows_Order keys p false sets given _ _ (map (bind vars) rows, h.allowed, (IsPermutation-map (bind vars) rows moved same, IsSorted-map (bind vars) (keys_cmp keys) moved sorted));
    wide = All-permutation (IsAsWide vars) rows moved same h.wide;
  }

  pub gives_Limit : (n k : ℕ) (p : Plan) (vars : List Var) (rows : List Cells) → Given p vars rows → Given (P.Limit n k p) vars (take n (drop k rows))
  gives_Limit n k p vars rows h = record {
    allowed = allows_Limit n k p false sets given _ _ (map (bind vars) rows, h.allowed, sym (take-map (bind vars) n (drop k rows)) ∙ ap (take n) (sym (drop-map (bind vars) k rows)));
    wide = All-take (IsAsWide vars) n (drop k rows) (All-drop (IsAsWide vars) k rows h.wide);
  }

  pub gives_Check : (name : Bytes) (c : Expr) (p : Plan) (vars : List Var) (rows : List Cells) → Given p vars rows → All (λ r. holds c (bind vars r) ≡ true) rows → Given (P.Check name c p) vars rows
  gives_Check name c p vars rows h all = record {
    allowed = allows_Check name c p false sets given _ _ (h.allowed, All-map (λ (r : Env). holds c r ≡ true) (bind vars) rows all);
    wide = h.wide;
  }

  pub gives_Aggregate : (made : List (Var × AggCall)) (p : Plan) (vars : List Var) (rows : List Cells) → Given p vars rows → Given (P.Aggregate made p) (map (λ m. m.0) made) (map (λ m. agg_call m.1 (map (bind vars) rows)) made ∷ [])
  gives_Aggregate made p vars rows h = record {
    allowed = allows_Aggregate made p false sets given _ _ (map (bind vars) rows, h.allowed, refl);
    wide = each_one (IsAsWide (map (λ m. m.0) made)) _ (simp length-map);
  }

  bind-renamed : (made ls vars : List Var) (r : Cells) → bind made (values_of ls vars r) ≡ renamed made ls (bind vars r)
  unfolding values_of
  bind-renamed made ls vars r = refl

  map-renamed : (made ls vars : List Var) (rows : List Cells) → AllByRecursion (IsAsWide vars) rows → map (bind made) (map (values_of ls vars) rows) ≡ map (renamed made ls) (map (bind vars) rows)
  map-renamed made ls vars rows = map-through (IsAsWide vars) (bind made) (bind vars) (values_of ls vars) (renamed made ls) (λ r w. bind-renamed made ls vars r) rows

  wide-renamed : (made ls vars : List Var) (rows : List Cells) → length ls ≡ length made → AreWide vars rows → AreWide made (map (values_of ls vars) rows)
  wide-renamed made ls vars rows e w = each_map (IsAsWide vars) (IsAsWide made) (values_of ls vars) (λ r x. wide-values_of ls vars r ∙ e) rows w

  pub gives_Union : (made ls rs : List Var) (l r : Plan) (xs ys : List Var) (left right : List Cells) → length ls ≡ length made → length rs ≡ length made → Given l xs left → Given r ys right → Given (P.Union made ls rs l r) made (map (values_of ls xs) left ++ map (values_of rs ys) right)
  gives_Union made ls rs l r xs ys left right el er hl hr = record {
    allowed = allows_Union made ls rs l r false sets given _ _ (
      map (bind xs) left,
      hl.allowed,
      (
        map (bind ys) right,
        hr.allowed,
        IsPermutation-same _ _ (sym (map-append (bind made) (map (values_of ls xs) left) (map (values_of rs ys) right)
            ∙ (λ i. map-renamed made ls xs left (recursion_from_All (IsAsWide xs) left hl.wide) i ++ map-renamed made rs ys right (recursion_from_All (IsAsWide ys) right hr.wide) i))),
      ),
    );
    wide = All-append (IsAsWide made) (map (values_of ls xs) left) (map (values_of rs ys) right) (wide-renamed made ls xs left el hl.wide) (wide-renamed made rs ys right er hr.wide);
  }

  in_order : (t : Bool) (xs ys : List Env) → ys ≡ xs → IsOrderOf t xs ys
  in_order true xs ys e = e
  in_order false xs ys e = IsPermutation-same xs ys (sym e)

  bind-with_each : (v : Var) (vars : List Var) (r : Cells) → Disjoint vars (v ∷ []) → IsAsWide vars r → (xs : List Value) → map (bind (vars ++ v ∷ [])) (with_each r xs) ≡ map (λ x. with_new (v ∷ []) (x ∷ []) (bind vars r)) xs
  unfolding with_each
  bind-with_each v vars r d w [] = refl
  bind-with_each v vars r d w (x ∷ xs) = λ i. bind-after vars (v ∷ []) r (x ∷ []) w d i ∷ bind-with_each v vars r d w xs i

  bind-expanded : (v : Var) (g : Generator) (vars : List Var) → Disjoint vars (v ∷ []) → (r : Cells) → IsAsWide vars r → map (bind (vars ++ v ∷ [])) (expanded_row g vars r) ≡ expanded v g (bind vars r)
  unfolding expanded_row
  bind-expanded v g vars d r w = bind-with_each v vars r d w (items g (bind vars r))

  wide-push : (v : Var) (vars : List Var) (r : Cells) (x : Value) → IsAsWide vars r → IsAsWide (vars ++ v ∷ []) (r ++ x ∷ [])
  wide-push v vars r x w = simp length-append (ap (λ n. n + 1) w)

  wide-expanded : (v : Var) (g : Generator) (vars : List Var) (r : Cells) → IsAsWide vars r → AreWide (vars ++ v ∷ []) (expanded_row g vars r)
  unfolding expanded_row with_each
  wide-expanded v g vars r w = All-map (IsAsWide (vars ++ v ∷ [])) (λ x. r ++ x ∷ []) (items g (bind vars r)) (λ k d low. wide-push v vars r _ w)

  pub gives_Unnest : (v : Var) (g : Generator) (p : Plan) (vars : List Var) (rows : List Cells) → Given p vars rows → Disjoint vars (v ∷ []) → Given (P.Unnest v g p) (vars ++ v ∷ []) (flat_map (expanded_row g vars) rows)
  gives_Unnest v g p vars rows h d = record {
    allowed = allows_Unnest v g p false sets given _ _ (map (bind vars) rows, h.allowed, in_order (ordered p) _ _ (flat-through (IsAsWide vars) (bind (vars ++ v ∷ [])) (bind vars) (expanded_row g vars) (expanded v g) (bind-expanded v g vars d) rows (recursion_from_All (IsAsWide vars) rows h.wide)));
    wide = each_flat (IsAsWide vars) (IsAsWide (vars ++ v ∷ [])) (expanded_row g vars) (λ r w. wide-expanded v g vars r w) rows h.wide;
  }

  bind-before_each : (xs ys : List Var) (l : Cells) → IsAsWide xs l → (right : List Cells) → map (bind (xs ++ ys)) (before_each l right) ≡ map (beside xs (bind xs l)) (map (bind ys) right)
  unfolding before_each
  bind-before_each xs ys l w [] = refl
  bind-before_each xs ys l w (r ∷ right) = λ i. bind-append xs ys l r w i ∷ bind-before_each xs ys l w right i

  bind-pairs : (c : Expr) (xs ys : List Var) (right : List Cells) (l : Cells) → IsAsWide xs l → map (bind (xs ++ ys)) (pairs_of c (xs ++ ys) right l) ≡ matches xs c (map (bind ys) right) (bind xs l)
  unfolding pairs_of
  bind-pairs c xs ys right l w = map-filter (bind (xs ++ ys)) (holds c) (before_each l right) ∙ ap (filter (holds c)) (bind-before_each xs ys l w right)

  wide-before : (xs ys : List Var) (l r : Cells) → IsAsWide xs l → IsAsWide ys r → IsAsWide (xs ++ ys) (l ++ r)
  wide-before xs ys l r w v = simp length-append (λ i. w i + v i)

  wide-before_each : (xs ys : List Var) (right : List Cells) → AreWide ys right → (l : Cells) → IsAsWide xs l → AreWide (xs ++ ys) (before_each l right)
  unfolding before_each
  wide-before_each xs ys right wr l w = each_map (IsAsWide ys) (IsAsWide (xs ++ ys)) (λ r. l ++ r) (λ r v. wide-before xs ys l r w v) right wr

  wide-pairs : (c : Expr) (xs ys : List Var) (right : List Cells) → AreWide ys right → (l : Cells) → IsAsWide xs l → AreWide (xs ++ ys) (pairs_of c (xs ++ ys) right l)
  unfolding pairs_of
  wide-pairs c xs ys right wr l w = All-filter (λ row. holds c (bind (xs ++ ys) row)) (IsAsWide (xs ++ ys)) (before_each l right) (wide-before_each xs ys right wr l w)

  pub gives_Join : (c : Expr) (l r : Plan) (xs ys : List Var) (left right : List Cells) → xs ≡ live l given → Given l xs left → Given r ys right → Given (P.Join c l r) (xs ++ ys) (flat_map (pairs_of c (xs ++ ys) right) left)
  gives_Join c l r xs ys left right e hl hr =
      let through = flat-through (IsAsWide xs) (bind (xs ++ ys)) (bind xs) (pairs_of c (xs ++ ys) right) (matches xs c (map (bind ys) right)) (bind-pairs c xs ys right) left (recursion_from_All (IsAsWide xs) left hl.wide) in
      record {
        allowed = allows_Join c l r false sets given _ _ (map (bind xs) left, hl.allowed, (map (bind ys) right, hr.allowed, IsPermutation-same _ _ (sym (through ∙ ap (λ (vs : List Var). pairs vs c (map (bind xs) left) (map (bind ys) right)) e))));
        wide = each_flat (IsAsWide xs) (IsAsWide (xs ++ ys)) (pairs_of c (xs ++ ys) right) (λ l w. wide-pairs c xs ys right hr.wide l w) left hl.wide;
      }

  bind-padded : (xs ys : List Var) (l : Cells) → IsAsWide xs l → bind (xs ++ ys) (padded_row ys l) ≡ beside xs (bind xs l) nulls
  unfolding padded_row
  bind-padded xs ys l w = bind-append xs ys l (map (λ v. V.Null) ys) w ∙ ap (λ (r : Env). beside xs (bind xs l) r) (bind-nulls ys)

  map-rows_or : (vars : List Var) (alone : Cells) (rows : List Cells) → map (bind vars) (rows_or alone rows) ≡ or_alone (bind vars alone) (map (bind vars) rows)
  map-rows_or vars alone [] = refl
  map-rows_or vars alone (r ∷ rows) = refl

  bind-pairs_or : (c : Expr) (xs ys : List Var) (right : List Cells) (l : Cells) → IsAsWide xs l → map (bind (xs ++ ys)) (pairs_or_padded c (xs ++ ys) ys right l) ≡ or_alone (beside xs (bind xs l) nulls) (matches xs c (map (bind ys) right) (bind xs l))
  unfolding pairs_or_padded
  bind-pairs_or c xs ys right l w = map-rows_or (xs ++ ys) (padded_row ys l) (pairs_of c (xs ++ ys) right l) ∙ (λ i. or_alone (bind-padded xs ys l w i) (bind-pairs c xs ys right l w i))

  wide-padded : (xs ys : List Var) (l : Cells) → IsAsWide xs l → IsAsWide (xs ++ ys) (padded_row ys l)
  unfolding padded_row
  wide-padded xs ys l w = wide-before xs ys l (map (λ v. V.Null) ys) w (length-map ys (λ v. V.Null))

  wide-rows_or : (vars : List Var) (alone : Cells) (rows : List Cells) → IsAsWide vars alone → AreWide vars rows → AreWide vars (rows_or alone rows)
  wide-rows_or vars alone [] w h = each_one (IsAsWide vars) alone w
  wide-rows_or vars alone (r ∷ rows) w h = h

  wide-pairs_or : (c : Expr) (xs ys : List Var) (right : List Cells) → AreWide ys right → (l : Cells) → IsAsWide xs l → AreWide (xs ++ ys) (pairs_or_padded c (xs ++ ys) ys right l)
  unfolding pairs_or_padded
  wide-pairs_or c xs ys right wr l w = wide-rows_or (xs ++ ys) (padded_row ys l) (pairs_of c (xs ++ ys) right l) (wide-padded xs ys l w) (wide-pairs c xs ys right wr l w)

  pub gives_LeftJoin : (c : Expr) (l r : Plan) (xs ys : List Var) (left right : List Cells) → xs ≡ live l given → Given l xs left → Given r ys right → Given (P.LeftJoin c l r) (xs ++ ys) (flat_map (pairs_or_padded c (xs ++ ys) ys right) left)
  gives_LeftJoin c l r xs ys left right e hl hr =
      let through = flat-through (IsAsWide xs) (bind (xs ++ ys)) (bind xs) (pairs_or_padded c (xs ++ ys) ys right) (λ a. or_alone (beside xs a nulls) (matches xs c (map (bind ys) right) a)) (bind-pairs_or c xs ys right) left (recursion_from_All (IsAsWide xs) left hl.wide) in
      record {
        allowed = allows_LeftJoin c l r false sets given _ _ (map (bind xs) left, hl.allowed, (map (bind ys) right, hr.allowed, IsPermutation-same _ _ (sym (through ∙ ap (λ (vs : List Var). left_pairs vs c (map (bind xs) left) (map (bind ys) right)) e))));
        wide = each_flat (IsAsWide xs) (IsAsWide (xs ++ ys)) (pairs_or_padded c (xs ++ ys) ys right) (λ l w. wide-pairs_or c xs ys right hr.wide l w) left hl.wide;
      }

  -- rows of different values are different rows
  bind-apart : (vars : List Var) → NoTwice vars → (rows : List Cells) → AreWide vars rows → AllPairs ◌≢◌ rows → AllPairs ◌≢◌ (map (bind vars) rows)
  bind-apart vars once rows w apart = pairs-map (IsAsWide vars) ◌≢◌ ◌≢◌ (bind vars) (λ a b v w other same. other (bind-injective vars a b once v w same)) rows w apart

  pub gives_Distinct : (p : Plan) (vars : List Var) (rows kept : List Cells) → Given p vars rows → NoTwice vars → AreDistinct rows kept → Given (P.Distinct p) vars kept
  gives_Distinct p vars rows kept h once d =
      let wide = All-weaker (Contains rows) (IsAsWide vars) (λ r i. All-contains (IsAsWide vars) rows r h.wide i) kept d.within in
      record {
        allowed = allows_Distinct p false sets given _ _ (
          map (bind vars) rows,
          h.allowed,
          record {
            within = each_map (Contains rows) (Contains (map (bind vars) rows)) (bind vars) (λ r i. Contains-map (bind vars) rows r i) kept d.within;
            all = each_map (Contains kept) (Contains (map (bind vars) kept)) (bind vars) (λ r i. Contains-map (bind vars) kept r i) rows d.every;
            once = bind-apart vars once kept wide d.once;
          },
        );
        wide = wide;
      }
