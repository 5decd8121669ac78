-- A nested plan by column allows what the plan allows.
use Rattle.std.proofs.Common.{◌≡◌, Bool, true, false, List, [], ◌∷◌, ◌++◌, map, flat_map, take, drop, ap, sym, subst, ◌∙◌}
use Rattle.std.specs.List.{Contains}
use Rattle.std.specs.List.Sorted.{IsPermutation}
use Rattle.std.proofs.lemmas.List.{length-map, take-map, drop-map}
use Rattle.std.proofs.lemmas.List.Sorted.{IsPermutation-map, All-permutation}
use Rattle.std.proofs.lemmas.List.Elements.{All-take, All-drop, All-weaker, All-contains}
use Rattle.al_plan.specs.declared.expr.Var.{Var}
use Rattle.al_plan.specs.declared.plan.Plan.{Plan, roll-Plan, more_of-Plan as Is, end_of-Plan as At}
use Rattle.al_plan.specs.declared.plan.Plan.TheOpen as L
use Rattle.al_plan.specs.declared.plan.Plan.TheVariants as P
use denote.Hole.Carrier.{roll}
use Rattle.al_plan.specs.Eval.{Env, bind}
use Rattle.al_plan.specs.Allows.{Sets, Allows, live, ordered}
use Rattle.al_plan.specs.Allows as A
use Rattle.al_plan.specs.Refines.{FitsEach, NoTwice, makes}
use Rattle.al_plan.proofs.PlanLaws.{Layer, makes-roll, ordered-roll}
use Rattle.al_plan.proofs.Mono.{live_is}
use Rattle.al_plan.proofs.Orders.{enroll}
use Rattle.al_plan.proofs.Within.{not_left}
use Rattle.al_plan.proofs.Makes.{Disjoint, twice_left, twice_right, twice_both}
use Rattle.al_plan.proofs.Lives.{live_once_at, cross}
use Rattle.al_plan.proofs.Bools.{no}
use Rattle.al_jobgen.specs.Opens.{plan_shape, plan_hidden, nested_shape, nested_hidden, row_hidden}
use Rattle.hy_job.specs.Columns.{Row}
use Rattle.hy_job.specs.Columns as C
use Rattle.hy_job.specs.Nested.{NAllows, n_ordered}
use Rattle.hy_job.specs.Nested as H
use Rattle.al_jobgen.specs.Columns.{gen_rex, made_aggs, nested_of}
use Rattle.al_jobgen.specs.Agree.{IsAsWide, AreAsWide, made_vars}
use Rattle.al_jobgen.proofs.ColumnLists.{each_one}
use Rattle.al_jobgen.proofs.ColumnMaps.{assigned_rows, selected_rows, cut_rows, expanded_rows}
use Rattle.al_jobgen.proofs.ColumnRows.{sorts, aggregate_rows}
use Rattle.al_jobgen.proofs.ColumnGroups.{distincts}
use Rattle.al_jobgen.proofs.NestedOpen.{fits_at}

-- ---- order

pub ordered_same : (p : Plan) (vars : List Var) → FitsEach p true vars → n_ordered (nested_of vars p) ≡ ordered p
unfolding plan_shape plan_hidden nested_shape nested_hidden row_hidden roll-Plan roll nested_of
ordered_same (P.Scan set vs) vars fit = sym (ordered-roll (L.Scan set vs))
ordered_same P.Empty vars fit = sym (ordered-roll L.Empty)
ordered_same P.Nested vars fit = sym (ordered-roll L.Nested)
ordered_same (P.Assign' made _ (Is p At)) vars fit = ordered_same p vars (fits_at (L.Assign made p) vars fit).0.0 ∙ sym (ordered-roll (L.Assign made p))
ordered_same (P.Select' c _ (Is p At)) vars fit = ordered_same p vars (fits_at (L.Select c p) vars fit).0.0 ∙ sym (ordered-roll (L.Select c p))
ordered_same (P.Project' vs _ (Is p At)) vars fit = ordered_same p vars (fits_at (L.Project vs p) vars fit).0.0 ∙ sym (ordered-roll (L.Project vs p))
ordered_same (P.Unnest' v g _ (Is p At)) vars fit = ordered_same p vars (fits_at (L.Unnest v g p) vars fit).0.0 ∙ sym (ordered-roll (L.Unnest v g p))
ordered_same (P.Subplan' _ (Is n At) _ (Is p At)) vars fit = absurd (no (fits_at (L.Subplan n p) vars fit).1)
ordered_same (P.Join' c _ (Is l At) _ (Is r At)) vars fit = sym (ordered-roll (L.Join c l r))
ordered_same (P.LeftJoin' c _ (Is l At) _ (Is r At)) vars fit = sym (ordered-roll (L.LeftJoin c l r))
ordered_same (P.Group' keys _ (Is n At) _ (Is p At)) vars fit = sym (ordered-roll (L.Group keys n p))
ordered_same (P.Distinct' _ (Is p At)) vars fit = sym (ordered-roll (L.Distinct p))
ordered_same (P.Union' made ls rs _ (Is l At) _ (Is r At)) vars fit = sym (ordered-roll (L.Union made ls rs l r))
ordered_same (P.Aggregate' made _ (Is p At)) vars fit = sym (ordered-roll (L.Aggregate made p))
ordered_same (P.Order' keys _ (Is p At)) vars fit = sym (ordered-roll (L.Order keys p))
ordered_same (P.Limit' m k _ (Is p At)) vars fit = ordered_same p vars (fits_at (L.Limit m k p) vars fit).0 ∙ sym (ordered-roll (L.Limit m k p))
ordered_same (P.Check' name c _ (Is p At)) vars fit = absurd (no (fits_at (L.Check name c p) vars fit).1)
ordered_same (P.Result' vs _ (Is p At)) vars fit = absurd (no (fits_at (L.Result vs p) vars fit).1)

-- ---- lists that stay what they are when they are bound

order-through : (f : Row → Env) (t : Bool) (xs ys : List Row) (zs : List Env) → map f xs ≡ zs → H.IsOrderOf t xs ys → A.IsOrderOf t zs (map f ys)
order-through f true xs ys zs e h = ap (map f) h ∙ e
order-through f false xs ys zs e h = subst (λ (us : List Env). IsPermutation us (map f ys)) e (IsPermutation-map f xs ys h)

order-wide : (vars : List Var) (t : Bool) (xs ys : List Row) → AreAsWide vars xs → H.IsOrderOf t xs ys → AreAsWide vars ys
order-wide vars true xs ys w h = subst (AreAsWide vars) (sym h) w
order-wide vars false xs ys w h = All-permutation (IsAsWide vars) xs ys h w

-- ---- what is allowed

module _ (vars : List Var) (nv : NoTwice vars) (outer : List Row) (wo : AreAsWide vars outer) (b : Bool) (sets : Sets) where
  abbrev Goal : Plan → List Row → Type 0
  Goal p rows = Allows p b sets vars (map (bind vars) outer) (map (bind (live p vars)) rows) × AreAsWide (live p vars) rows

  -- a layer whose live variables are these
  closes : (x : L.Plan-F Plan) (rows : List Row) (news : List Var) → live (roll-Plan x) vars ≡ news → Layer x b sets vars (map (bind vars) outer) (map (bind news) rows) → AreAsWide news rows → Goal (roll-Plan x) rows
  closes x rows news e h w = subst (λ (vs : List Var). Allows (roll-Plan x) b sets vars (map (bind vars) outer) (map (bind vs) rows) × AreAsWide vs rows) (sym e) (enroll x b sets vars (map (bind vars) outer) (map (bind news) rows) h, w)

  front : (xs ys : List Var) → Disjoint vars (xs ++ ys) → Disjoint vars xs
  front xs ys d q e = not_left xs ys q (d q e)

  once : (p : Plan) → FitsEach p true vars → NoTwice (makes p) → Disjoint vars (makes p) → NoTwice (live p vars)
  once p fit nm d = live_once_at p true vars (λ e. absurd (no e)) fit nv nm d

  once_more : (p : Plan) (new : List Var) → FitsEach p true vars → NoTwice (makes p ++ new) → Disjoint vars (makes p ++ new) → NoTwice (live p vars ++ new)
  once_more p new fit nm d = twice_both (live p vars) new (once p fit (twice_left (makes p) new nm) (front (makes p) new d)) (twice_right (makes p) new nm) (cross p true vars new fit nm d)

  allows : (p : Plan) → FitsEach p true vars → NoTwice (makes p) → Disjoint vars (makes p) → (rows : List Row) → NAllows (nested_of vars p) outer rows → Goal p rows
  unfolding plan_shape plan_hidden nested_shape nested_hidden row_hidden roll-Plan roll nested_of
  allows (P.Scan set vs) fit nm d rows h = absurd (no (fits_at (L.Scan set vs) vars fit))
  allows P.Empty fit nm d rows h = absurd (no (fits_at L.Empty vars fit))
  allows P.Nested fit nm d rows h = closes L.Nested rows vars (live_is L.Nested vars) (IsPermutation-map (bind vars) outer rows h) (All-permutation (IsAsWide vars) outer rows h wo)
  allows (P.Assign' made _ (Is p At)) fit nm d rows h =
      let new = made_vars made in
      let x = L.Assign made p in
      let fits = (fits_at x vars fit).0.0 in
      let m = subst NoTwice (makes-roll x) nm in
      let e = subst (Disjoint vars) (makes-roll x) d in
      let below = allows p fits (twice_left (makes p) new m) (front (makes p) new e) h.0 h.1 in
      let both = assigned_rows (live p vars) h.0 below.1 made (once_more p new fits m e) in
      closes x rows (live p vars ++ new) (live_is x vars) (map (bind (live p vars)) h.0, below.0, ap (map (bind (live p vars ++ new))) h.2 ∙ both.0) (subst (AreAsWide (live p vars ++ new)) (sym h.2) both.1)
  allows (P.Select' c _ (Is p At)) fit nm d rows h =
      let x = L.Select c p in
      let below = allows p (fits_at x vars fit).0.0 (subst NoTwice (makes-roll x) nm) (subst (Disjoint vars) (makes-roll x) d) h.0 h.1 in
      let both = selected_rows (live p vars) h.0 below.1 c in
      closes x rows (live p vars) (live_is x vars) (map (bind (live p vars)) h.0, below.0, ap (map (bind (live p vars))) h.2 ∙ both.0) (subst (AreAsWide (live p vars)) (sym h.2) both.1)
  allows (P.Project' vs _ (Is p At)) fit nm d rows h =
      let x = L.Project vs p in
      let below = allows p (fits_at x vars fit).0.0 (subst NoTwice (makes-roll x) nm) (subst (Disjoint vars) (makes-roll x) d) h.0 h.1 in
      let both = cut_rows (live p vars) h.0 below.1 vs in
      closes x rows vs (live_is x vars) (map (bind (live p vars)) h.0, below.0, ap (map (bind vs)) h.2 ∙ both.0) (subst (AreAsWide vs) (sym h.2) both.1)
  allows (P.Unnest' v g _ (Is p At)) fit nm d rows h =
      let new = v ∷ [] in
      let x = L.Unnest v g p in
      let fits = (fits_at x vars fit).0.0 in
      let m = subst NoTwice (makes-roll x) nm in
      let e = subst (Disjoint vars) (makes-roll x) d in
      let below = allows p fits (twice_left (makes p) new m) (front (makes p) new e) h.0 h.1 in
      let both = expanded_rows (live p vars) h.0 below.1 v g (once_more p new fits m e) in
      let same = ordered_same p vars fits in
      closes x rows (live p vars ++ new) (live_is x vars)
      (map (bind (live p vars)) h.0, below.0, order-through (bind (live p vars ++ new)) (ordered p) _ rows _ both.0 (subst (λ (t : Bool). H.IsOrderOf t (flat_map (C.expanded (gen_rex (live p vars) g)) h.0) rows) same h.2))
      (order-wide (live p vars ++ new) (n_ordered (nested_of vars p)) _ rows both.1 h.2)
  allows (P.Subplan' _ (Is n At) _ (Is p At)) fit nm d rows h = absurd (no (fits_at (L.Subplan n p) vars fit).1)
  allows (P.Join' c _ (Is l At) _ (Is r At)) fit nm d rows h = absurd (no (fits_at (L.Join c l r) vars fit).2)
  allows (P.LeftJoin' c _ (Is l At) _ (Is r At)) fit nm d rows h = absurd (no (fits_at (L.LeftJoin c l r) vars fit).2)
  allows (P.Group' keys _ (Is n At) _ (Is p At)) fit nm d rows h = absurd (no (fits_at (L.Group keys n p) vars fit).1)
  allows (P.Distinct' _ (Is p At)) fit nm d rows h =
      let x = L.Distinct p in
      let fits = (fits_at x vars fit).0 in
      let m = subst NoTwice (makes-roll x) nm in
      let e = subst (Disjoint vars) (makes-roll x) d in
      let below = allows p fits m e h.0 h.1 in
      closes x rows (live p vars) (live_is x vars)
      (map (bind (live p vars)) h.0, below.0, distincts (live p vars) (once p fits m e) h.0 below.1 rows h.2)
      (All-weaker (Contains h.0) (IsAsWide (live p vars)) (λ r i. All-contains (IsAsWide (live p vars)) h.0 r below.1 i) rows h.2.within)
  allows (P.Union' made ls rs _ (Is l At) _ (Is r At)) fit nm d rows h = absurd (no (fits_at (L.Union made ls rs l r) vars fit).2)
  allows (P.Aggregate' made _ (Is p At)) fit nm d rows h =
      let new = made_vars made in
      let x = L.Aggregate made p in
      let m = subst NoTwice (makes-roll x) nm in
      let e = subst (Disjoint vars) (makes-roll x) d in
      let below = allows p (fits_at x vars fit).0.0 (twice_left (makes p) new m) (front (makes p) new e) h.0 h.1 in
      closes x rows new (live_is x vars)
      (map (bind (live p vars)) h.0, below.0, ap (map (bind new)) h.2 ∙ ap (λ (r : Env). r ∷ []) (aggregate_rows (live p vars) h.0 below.1 made))
      (subst (AreAsWide new) (sym h.2) (each_one (IsAsWide new) (C.agg_row (made_aggs (live p vars) made) h.0) (simp length-map)))
  allows (P.Order' keys _ (Is p At)) fit nm d rows h =
      let x = L.Order keys p in
      let below = allows p (fits_at x vars fit).0.0 (subst NoTwice (makes-roll x) nm) (subst (Disjoint vars) (makes-roll x) d) h.0 h.1 in
      let w = All-permutation (IsAsWide (live p vars)) h.0 rows h.2.0 below.1 in
      closes x rows (live p vars) (live_is x vars)
      (map (bind (live p vars)) h.0, below.0, (IsPermutation-map (bind (live p vars)) h.0 rows h.2.0, (sorts (live p vars) rows w keys).0 h.2.1)) w
  allows (P.Limit' n k _ (Is p At)) fit nm d rows h =
      let x = L.Limit n k p in
      let below = allows p (fits_at x vars fit).0 (subst NoTwice (makes-roll x) nm) (subst (Disjoint vars) (makes-roll x) d) h.0 h.1 in
      closes x rows (live p vars) (live_is x vars)
      (map (bind (live p vars)) h.0, below.0, ap (map (bind (live p vars))) h.2 ∙ sym (take-map (bind (live p vars)) n (drop k h.0)) ∙ ap (take n) (sym (drop-map (bind (live p vars)) k h.0)))
      (subst (AreAsWide (live p vars)) (sym h.2) (All-take (IsAsWide (live p vars)) n (drop k h.0) (All-drop (IsAsWide (live p vars)) k h.0 below.1)))
  allows (P.Check' name c _ (Is p At)) fit nm d rows h = absurd (no (fits_at (L.Check name c p) vars fit).1)
  allows (P.Result' vs _ (Is p At)) fit nm d rows h = absurd (no (fits_at (L.Result vs p) vars fit).1)

pub nested_allows : (p : Plan) (vars : List Var) → FitsEach p true vars → NoTwice vars → NoTwice (makes p) → Disjoint vars (makes p) → (outer rows : List Row) → AreAsWide vars outer → NAllows (nested_of vars p) outer rows
    → (b : Bool) (sets : Sets) → Allows p b sets vars (map (bind vars) outer) (map (bind (live p vars)) rows) × AreAsWide (live p vars) rows
nested_allows p vars fit nv nm d outer rows wo h b sets = allows vars nv outer wo b sets p fit nm d rows h
