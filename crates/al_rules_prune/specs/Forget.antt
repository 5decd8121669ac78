-- A nested plan doesn't see variables that it doesn't name.
use Rattle.std.proofs.Common.{◌≡◌, ℕ, Bool, true, false, List, [], ◌∷◌, ◌++◌, map, filter, flat_map, take, drop, refl, ap, sym, subst, ◌∙◌}
use Rattle.std.specs.Prelude.{if◌then◌else◌}
use Rattle.std.specs.List.{AllByRecursion}
use Rattle.std.specs.List.Sorted.{IsPermutation, IsSorted}
use Rattle.std.proofs.lemmas.List.{take-map, drop-map, map-append}
use Rattle.al_value.specs.declared.value.Value.{Value}
use Rattle.al_value.specs.declared.value.Value.TheVariants as V
use Rattle.al_plan.specs.declared.expr.Var.{Var}
use Rattle.al_plan.specs.declared.expr.Expr.{Expr}
use Rattle.al_plan.specs.declared.plan.AggCall.{AggCall}
use Rattle.al_plan.specs.declared.plan.Generator.{Generator}
use Rattle.al_plan.specs.declared.plan.Plan.{Plan, map-Plan, roll-Plan, fold-roll-Plan, ind-Plan}
use Rattle.al_plan.specs.declared.plan.Plan.TheOpen as L
use Rattle.al_plan.specs.Eval.{Bytes, Env, bind, eval, holds}
use Rattle.al_plan.specs.Names.{names, agg_exprs, item_exprs}
use Rattle.al_plan.specs.Calls.{items}
use Rattle.al_plan.specs.Allows.{Sets, Allows, is_among, cut, assigned, expanded, with_new, keys_cmp, agg_row, IsOrderOf, ordered}
use Rattle.al_plan.specs.Refines.{FitsEach, makes, makes_step}
use Rattle.al_plan.proofs.Bools.{no, by_cases}
use Rattle.al_plan.proofs.PlanLaws.{Layer, EachLayer, each-roll, makes-roll}
use Rattle.al_plan.proofs.Orders.{unroll, enroll}
use Rattle.al_plan.proofs.Moves.{IsPermutation-lift}
use Rattle.al_plan.proofs.Within.{not_left, not_right, within-bind}
use Rattle.al_plan.proofs.Makes.{Disjoint}
use Rattle.al_rules_prune.specs.Reading.{reads, reads_step, has_distinct, distinct_step}
use Rattle.al_rules_prune.specs.RowMaps.{Keeps, aggs-kept, made-kept, items-kept, holds-kept, filter-kept, sorted-kept}

-- NULL at these variables
abbrev pub forget : List Var → Env → Env
forget ds r q = if is_among ds q then V.Null else r q

abbrev pub Avoids : List Var → List Bytes → Type 0
Avoids ds = AllByRecursion (λ q. is_among ds q ≡ false)

parts : (ds : List Var) (xs ys : List Bytes) → Avoids ds (xs ++ ys) → Avoids ds xs × Avoids ds ys
parts ds [] ys h = (tt, h)
parts ds (x ∷ xs) ys h = let more = parts ds xs ys h.1 in ((h.0, more.0), more.1)

kept_at : (ds : List Var) (r : Env) (q : Bytes) → is_among ds q ≡ false → forget ds r q ≡ r q
kept_at ds r q h = ap (λ b. if b then V.Null else r q) h

lost_at : (ds : List Var) (r : Env) (q : Bytes) → is_among ds q ≡ true → forget ds r q ≡ V.Null
lost_at ds r q h = ap (λ b. if b then V.Null else r q) h

pub keeps_forget : (ds : List Var) (qs : List Bytes) → Avoids ds qs → Keeps (forget ds) qs
keeps_forget ds [] h = tt
keeps_forget ds (q ∷ qs) h = (λ r. kept_at ds r q h.0, keeps_forget ds qs h.1)

-- rows without values at these variables lose nothing
pub forget_within : (ds own : List Var) (r : Env) → ((q : Bytes) → is_among own q ≡ false → r q ≡ V.Null) → Disjoint ds own → forget ds r ≡ r
forget_within ds own r w d i q = (by_cases (is_among ds q) (λ t. lost_at ds r q t ∙ sym (w q (d q t))) (λ f. kept_at ds r q f)) i

new_forget : (ds own : List Var) (vs : List Value) (r : Env) → Disjoint ds own → with_new own vs (forget ds r) ≡ forget ds (with_new own vs r)
new_forget ds own vs r d i q =
    (by_cases (is_among ds q)
    (λ t. ap (λ b. if b then bind own vs q else forget ds r q) (d q t) ∙ lost_at ds r q t ∙ sym (lost_at ds (with_new own vs r) q t))
    (λ f. ap (λ x. if is_among own q then bind own vs q else x) (kept_at ds r q f) ∙ sym (kept_at ds (with_new own vs r) q f))) i

assigned_forget : (ds : List Var) (made : List (Var × Expr)) (r : Env) → Avoids ds (flat_map (λ m. names m.1) made) → Disjoint ds (map (λ m. m.0) made) → assigned made (forget ds r) ≡ forget ds (assigned made r)
assigned_forget ds made r h d = ap (λ vs. with_new (map (λ m. m.0) made) vs (forget ds r)) (made-kept (forget ds) made r (keeps_forget ds (flat_map (λ m. names m.1) made) h)) ∙ new_forget ds (map (λ m. m.0) made) (map (λ m. eval m.1 r) made) r d

cut_forget : (ds vars : List Var) (r : Env) → cut vars (forget ds r) ≡ forget ds (cut vars r)
cut_forget ds vars r i q =
    (by_cases (is_among ds q)
    (λ t. by_cases (is_among vars q) (λ u. ap (λ b. if b then forget ds r q else V.Null) u ∙ lost_at ds r q t) (λ u. ap (λ b. if b then forget ds r q else V.Null) u) ∙ sym (lost_at ds (cut vars r) q t))
    (λ f. ap (λ x. if is_among vars q then x else V.Null) (kept_at ds r q f) ∙ sym (kept_at ds (cut vars r) q f))) i

expanded_forget : (ds : List Var) (v : Var) (g : Generator) (r : Env) → Avoids ds (flat_map names (item_exprs g)) → Disjoint ds (v ∷ []) → expanded v g (forget ds r) ≡ map (forget ds) (expanded v g r)
expanded_forget ds v g r h d = ap (λ xs. map (λ x. with_new (v ∷ []) (x ∷ []) (forget ds r)) xs) (items-kept (forget ds) g r (keeps_forget ds (flat_map names (item_exprs g)) h)) ∙ each (items g r)
  where
    each : (xs : List Value) → map (λ x. with_new (v ∷ []) (x ∷ []) (forget ds r)) xs ≡ map (forget ds) (map (λ x. with_new (v ∷ []) (x ∷ []) r) xs)
    each [] = refl
    each (x ∷ xs) = λ i. new_forget ds (v ∷ []) (x ∷ []) r d i ∷ each xs i

swapped : (f g : Env → Env) → ((r : Env) → g (f r) ≡ f (g r)) → (rows : List Env) → map g (map f rows) ≡ map f (map g rows)
swapped f g h [] = refl
swapped f g h (r ∷ rows) = λ i. h r i ∷ swapped f g h rows i

flat_forget : (ds : List Var) (v : Var) (g : Generator) (rows : List Env) → Avoids ds (flat_map names (item_exprs g)) → Disjoint ds (v ∷ []) → flat_map (expanded v g) (map (forget ds) rows) ≡ map (forget ds) (flat_map (expanded v g) rows)
flat_forget ds v g [] h d = refl
flat_forget ds v g (r ∷ rows) h d = (λ i. expanded_forget ds v g r h d i ++ flat_forget ds v g rows h d i) ∙ sym (map-append (forget ds) (expanded v g r) (flat_map (expanded v g) rows))

limited : (f : Env → Env) (n k : ℕ) (rows : List Env) → take n (drop k (map f rows)) ≡ map f (take n (drop k rows))
limited f n k rows = ap (take n) (drop-map f k rows) ∙ take-map f n (drop k rows)

pub reads-roll : (x : L.Plan-F Plan) → reads (roll-Plan x) ≡ reads_step (map-Plan Plan (List Bytes) reads x)
unfolding reads
reads-roll x = fold-roll-Plan (List Bytes) reads_step x

pub distinct-roll : (x : L.Plan-F Plan) → has_distinct (roll-Plan x) ≡ distinct_step (map-Plan Plan Bool has_distinct x)
unfolding has_distinct
distinct-roll x = fold-roll-Plan Bool distinct_step x

right_part : (ds xs ys : List Var) → Disjoint ds (xs ++ ys) → Disjoint ds ys
right_part ds xs ys d q e = not_right xs ys q (d q e)

left_part : (ds xs ys : List Var) → Disjoint ds (xs ++ ys) → Disjoint ds xs
left_part ds xs ys d q e = not_left xs ys q (d q e)

-- a list that the plan allows, of which these rows are the images
abbrev pub Whole : (Env → Env) → (List Env → Type 0) → List Env → Type 0
Whole f P rows = (whole : List Env) × P whole × (rows ≡ map f whole)

abbrev pub Remembers : Plan → Type 0
Remembers p = (there : List Var) → FitsEach p true there → has_distinct p ≡ false → (ds : List Var) → Avoids ds (reads p) → Disjoint ds (makes p)
    → (b : Bool) (sets : Sets) (given known : List Var) (outer rows : List Env) → Allows p b sets known (map (forget ds) outer) rows → Whole (forget ds) (Allows p b sets given outer) rows

order_whole : (ds : List Var) (t : Bool) (xs rows : List Env) → IsOrderOf t (map (forget ds) xs) rows → Whole (forget ds) (IsOrderOf t xs) rows
order_whole ds true xs rows o = (xs, refl, o)
order_whole ds false xs rows o = IsPermutation-lift (forget ds) xs rows o

module _ {S : Type 0} (up : S → Plan) (ih : (s : S) → Remembers (up s)) (there : List Var) (ds : List Var) (b : Bool) (sets : Sets) (given known : List Var) (outer rows : List Env) where
  step : (y : L.Plan-F S) → EachLayer (map-Plan S Plan up y) true there → distinct_step (map-Plan Plan Bool has_distinct (map-Plan S Plan up y)) ≡ false
      → Avoids ds (reads_step (map-Plan Plan (List Bytes) reads (map-Plan S Plan up y))) → Disjoint ds (makes_step (map-Plan Plan (List Var) makes (map-Plan S Plan up y)))
      → Layer (map-Plan S Plan up y) b sets known (map (forget ds) outer) rows → Whole (forget ds) (Layer (map-Plan S Plan up y) b sets given outer) rows
  step (L.Scan set vars) h e a d o = absurd (no h)
  step L.Empty h e a d o = absurd (no h)
  step L.Nested h e a d o = IsPermutation-lift (forget ds) outer rows o
  step (L.Assign made s) h e a d o =
      let both = parts ds (reads (up s)) (flat_map (λ m. names m.1) made) a in
      let own = map (λ (m : Var × Expr). m.0) made in
      let (whole, k, is) = ih s there h.0.0 e ds both.0 (left_part ds (makes (up s)) own d) b sets given known outer o.0 o.1 in
      (map (assigned made) whole, (whole, k, refl), o.2 ∙ ap (map (assigned made)) is ∙ swapped (forget ds) (assigned made) (λ r. assigned_forget ds made r both.1 (right_part ds (makes (up s)) own d)) whole)
  step (L.Select c s) h e a d o =
      let both = parts ds (reads (up s)) (names c) a in
      let (whole, k, is) = ih s there h.0.0 e ds both.0 d b sets given known outer o.0 o.1 in
      (filter (holds c) whole, (whole, k, refl), o.2 ∙ ap (filter (holds c)) is ∙ filter-kept (forget ds) c whole (λ r. holds-kept (forget ds) c r (keeps_forget ds (names c) both.1)))
  step (L.Project vars s) h e a d o =
      let both = parts ds (reads (up s)) (map (λ v. v.name) vars) a in
      let (whole, k, is) = ih s there h.0.0 e ds both.0 d b sets given known outer o.0 o.1 in
      (map (cut vars) whole, (whole, k, refl), o.2 ∙ ap (map (cut vars)) is ∙ swapped (forget ds) (cut vars) (cut_forget ds vars) whole)
  step (L.Unnest v its s) h e a d o =
      let both = parts ds (reads (up s)) (flat_map names (item_exprs its)) a in
      let (whole, k, is) = ih s there h.0.0 e ds both.0 (left_part ds (makes (up s)) (v ∷ []) d) b sets given known outer o.0 o.1 in
      let moved = subst (λ (zs : List Env). IsOrderOf (ordered (up s)) zs rows) (ap (flat_map (expanded v its)) is ∙ flat_forget ds v its whole both.1 (right_part ds (makes (up s)) (v ∷ []) d)) o.2 in
      let (all, order, are) = order_whole ds (ordered (up s)) (flat_map (expanded v its) whole) rows moved in
      (all, (whole, k, order), are)
  step (L.Subplan m s) h e a d o = absurd (no h.1)
  step (L.Join c l r) h e a d o = absurd (no h.2)
  step (L.LeftJoin c l r) h e a d o = absurd (no h.2)
  step (L.Group keys m s) h e a d o = absurd (no h.1)
  step (L.Distinct s) h e a d o = absurd (no e)
  step (L.Union made ls rs l r) h e a d o = absurd (no h.2)
  step (L.Aggregate made s) h e a d o =
      let both = parts ds (reads (up s)) (flat_map (λ m. flat_map names (agg_exprs m.1)) made) a in
      let own = map (λ (m : Var × AggCall). m.0) made in
      let (whole, k, is) = ih s there h.0.0 e ds both.0 (left_part ds (makes (up s)) own d) b sets given known outer o.0 o.1 in (
        agg_row made whole ∷ [],
        (whole, k, refl),
        o.2 ∙ ap (λ zs. agg_row made zs ∷ []) is ∙ ap (λ vs. bind own vs ∷ []) (aggs-kept (forget ds) made whole (keeps_forget ds (flat_map (λ m. flat_map names (agg_exprs m.1)) made) both.1))
            ∙ sym (ap (λ (r : Env). r ∷ []) (forget_within ds own (agg_row made whole) (within-bind own _) (right_part ds (makes (up s)) own d))),
      )
  step (L.Order keys s) h e a d o =
      let both = parts ds (reads (up s)) (map (λ k. k.var.name) keys) a in
      let (whole, k, is) = ih s there h.0.0 e ds both.0 d b sets given known outer o.0 o.1 in
      let (all, moved, are) = IsPermutation-lift (forget ds) whole rows (subst (λ (zs : List Env). IsPermutation zs rows) is o.2.0) in
      (all, (whole, k, (moved, sorted-kept (forget ds) keys all (keeps_forget ds (map (λ k. k.var.name) keys) both.1) (subst (IsSorted (keys_cmp keys)) are o.2.1))), are)
  step (L.Limit n k s) h e a d o =
      let (whole, m, is) = ih s there h.0 e ds a d b sets given known outer o.0 o.1 in
      (take n (drop k whole), (whole, m, refl), o.2 ∙ ap (λ zs. take n (drop k zs)) is ∙ limited (forget ds) n k whole)
  step (L.Check own c s) h e a d o = absurd (no h.1)
  step (L.Result vars s) h e a d o = absurd (no h.1)

layer_remembers : {S : Type 0} (up : S → Plan) → ((s : S) → Remembers (up s)) → (y : L.Plan-F S) → Remembers (roll-Plan (map-Plan S Plan up y))
layer_remembers {S} up ih y there fit e ds a d b sets given known outer rows o =
    let (whole, k, is) = step up ih there ds b sets given known outer rows y
    (subst (λ (z : Bool → List Var → Type 0). z true there) (each-roll (map-Plan S Plan up y)) fit)
    (sym (distinct-roll (map-Plan S Plan up y)) ∙ e)
    (subst (Avoids ds) (reads-roll (map-Plan S Plan up y)) a)
    (subst (Disjoint ds) (makes-roll (map-Plan S Plan up y)) d)
    (unroll (map-Plan S Plan up y) b sets known (map (forget ds) outer) rows o) in
    (whole, enroll (map-Plan S Plan up y) b sets given outer whole k, is)

-- what a nested plan without a distinct allows over rows cut of variables that it doesn't name comes of what it allows over the rows
pub remembers : (p : Plan) → Remembers p
remembers = ind-Plan Remembers (λ x y e. subst (λ (z : L.Plan-F Plan). Remembers (roll-Plan z)) e (layer_remembers (λ s. s.0) (λ s. s.1) y))
