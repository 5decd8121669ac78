-- A nested plan without a distinct doesn't see variables that are not given to it.
use Rattle.std.proofs.Common.{◌≡◌, ℕ, Bool, true, false, cond, List, [], ◌∷◌, ◌++◌, map, filter, flat_map, take, drop, refl, ap, sym, subst, ◌∙◌}
use Rattle.std.specs.Prelude.{if◌then◌else◌}
use Rattle.std.specs.List.{AllByRecursion}
use Rattle.std.specs.List.Sorted.{IsPermutation, IsSorted}
use Rattle.std.specs.declared.cmp.Ordering.{Ordering}
use Rattle.std.specs.Ordering.{ordering_then}
use Rattle.std.proofs.lemmas.List.{take-map, drop-map}
use Rattle.std.proofs.lemmas.List.Sorted.{IsPermutation-map}
use Rattle.al_value.specs.declared.value.Value.{Value}
use Rattle.al_value.specs.declared.value.Value.TheVariants as V
use Rattle.al_value.specs.Value.{value_cmp}
use Rattle.al_func.specs.Func.{is_true}
use Rattle.al_func.specs.Items.{range, split}
use Rattle.al_plan.specs.declared.expr.Var.{Var}
use Rattle.al_plan.specs.declared.expr.Expr.{Expr}
use Rattle.al_plan.specs.declared.plan.OrderKey.{OrderKey}
use Rattle.al_plan.specs.declared.plan.Generator.{Generator}
use Rattle.al_plan.specs.declared.plan.Generator.TheVariants as G
use Rattle.al_plan.specs.declared.plan.Plan.{Plan, map-Plan, roll-Plan, fold-roll-Plan, ind-Plan}
use Rattle.al_plan.specs.declared.plan.Plan.TheOpen as L
use Rattle.al_plan.specs.Eval.{Bytes, Env, bind, eval, holds}
use Rattle.al_plan.specs.Names.{names, item_exprs}
use Rattle.al_plan.specs.Calls.{items}
use Rattle.al_plan.specs.Allows.{Sets, Allows, live, is_among, cut, assigned, expanded, with_new, keys_cmp, directed, agg_row, IsOrderOf, ordered}
use Rattle.al_plan.specs.Refines.{FitsEach, IsOver, AreOver, AreLive, AreAmong, makes, makes_step}
use Rattle.al_plan.proofs.Bools.{by_cases}
use Rattle.al_plan.proofs.RowLaws.{map-filter, IsSorted-map}
use Rattle.al_plan.proofs.PlanLaws.{Layer, EachLayer, each-roll, makes-roll}
use Rattle.al_plan.proofs.Orders.{unroll, enroll}
use Rattle.al_plan.proofs.Within.{not_left, not_right, within-bind}
use Rattle.al_plan.proofs.Lives.{only_made}
use Rattle.al_rule.proofs.ReadLaws.{eval-names}
use Rattle.al_rules_group.specs.GroupRules.{has_distinct, distinct_step}
use Rattle.al_rules_group.specs.Seeing.{Sees, sees_calls, agg_row-seen}

-- NULL at the names that `d` picks
abbrev pub forget : (Bytes → Bool) → Env → Env
forget d r q = if d q then V.Null else r q

-- `d` picks none of these variables
abbrev pub Misses : (Bytes → Bool) → List Var → Type 0
Misses d vars = (q : Bytes) → d q ≡ true → is_among vars q ≡ false

no : true ≡ false → ⊥
no e = cc

kept : (d : Bytes → Bool) (r : Env) (q : Bytes) → d q ≡ false → forget d r q ≡ r q
kept d r q h = ap (λ b. if b then V.Null else r q) h

lost : (d : Bytes → Bool) (r : Env) (q : Bytes) → d q ≡ true → forget d r q ≡ V.Null
lost d r q h = ap (λ b. if b then V.Null else r q) h

missed : (d : Bytes → Bool) (vars : List Var) (q : Bytes) → Misses d vars → is_among vars q ≡ true → d q ≡ false
missed d vars q m h = by_cases (d q) (λ t. absurd (no (sym h ∙ m q t))) (λ f. f)

agree : (d : Bytes → Bool) (vars : List Var) (r : Env) → Misses d vars → (qs : List Bytes) → AreAmong vars qs → AllByRecursion (λ q. forget d r q ≡ r q) qs
agree d vars r m [] h = tt
agree d vars r m (q ∷ qs) h = (kept d r q (missed d vars q m h.0), agree d vars r m qs h.1)

sees_forget : (d : Bytes → Bool) (vars : List Var) → Misses d vars → (e : Expr) → IsOver vars e → Sees (forget d) e
sees_forget d vars m e h r = eval-names e (forget d r) r (agree d vars r m (names e) h.reads)

-- a row without values at what is picked is kept
pub forget-within : (d : Bytes → Bool) (own : List Var) (r : Env) → ((q : Bytes) → is_among own q ≡ false → r q ≡ V.Null) → Misses d own → forget d r ≡ r
forget-within d own r w m i q = (by_cases (d q) (λ t. lost d r q t ∙ sym (w q (m q t))) (λ f. kept d r q f)) i

new-forget : (d : Bytes → Bool) (own : List Var) (vs : List Value) (r : Env) → Misses d own → forget d (with_new own vs r) ≡ with_new own vs (forget d r)
new-forget d own vs r m i q =
    (by_cases (d q)
    (λ t. lost d (with_new own vs r) q t ∙ sym (ap (λ b. if b then bind own vs q else forget d r q) (m q t) ∙ lost d r q t))
    (λ f. kept d (with_new own vs r) q f ∙ ap (λ x. if is_among own q then bind own vs q else x) (sym (kept d r q f)))) i

made-values : (d : Bytes → Bool) (vars : List Var) (made : List (Var × Expr)) (r : Env) → Misses d vars → AreOver vars (map (λ m. m.1) made) → map (λ m. eval m.1 (forget d r)) made ≡ map (λ m. eval m.1 r) made
made-values d vars [] r m h = refl
made-values d vars (x ∷ made) r m h = λ i. sees_forget d vars m x.1 h.0 r i ∷ made-values d vars made r m h.1 i

assigned-forget : (d : Bytes → Bool) (vars : List Var) (made : List (Var × Expr)) (r : Env) → Misses d vars → AreOver vars (map (λ m. m.1) made) → Misses d (map (λ m. m.0) made) → forget d (assigned made r) ≡ assigned made (forget d r)
assigned-forget d vars made r m h own = new-forget d (map (λ m. m.0) made) (map (λ m. eval m.1 r) made) r own ∙ ap (λ vs. with_new (map (λ m. m.0) made) vs (forget d r)) (sym (made-values d vars made r m h))

cut-forget : (d : Bytes → Bool) (vars : List Var) (r : Env) → forget d (cut vars r) ≡ cut vars (forget d r)
cut-forget d vars r i q =
    (by_cases (d q)
    (λ t. lost d (cut vars r) q t ∙ by_cases (is_among vars q) (λ u. sym (ap (λ b. if b then forget d r q else V.Null) u ∙ lost d r q t)) (λ u. sym (ap (λ b. if b then forget d r q else V.Null) u)))
    (λ f. kept d (cut vars r) q f ∙ ap (λ x. if is_among vars q then x else V.Null) (sym (kept d r q f)))) i

items-forget : (d : Bytes → Bool) (vars : List Var) (g : Generator) (r : Env) → Misses d vars → AreOver vars (item_exprs g) → items g (forget d r) ≡ items g r
unfolding items
items-forget d vars (G.Range a b) r m h i = range (sees_forget d vars m a h.0 r i) (sees_forget d vars m b h.1.0 r i)
items-forget d vars (G.Split a b) r m h i = split (sees_forget d vars m a h.0 r i) (sees_forget d vars m b h.1.0 r i)

filter-alike : (p q : Env → Bool) → ((r : Env) → p r ≡ q r) → (rows : List Env) → filter p rows ≡ filter q rows
filter-alike p q h [] = refl
filter-alike p q h (r ∷ rows) = λ i. cond (h r i) (r ∷ filter-alike p q h rows i) (filter-alike p q h rows i)

keys-forget : (d : Bytes → Bool) (vars : List Var) (keys : List OrderKey) (a b : Env) → Misses d vars → AreLive vars (map (λ k. k.var) keys) → keys_cmp keys (forget d a) (forget d b) ≡ keys_cmp keys a b
keys-forget d vars [] a b m h = refl
keys-forget d vars (k ∷ keys) a b m h =
    let here = missed d vars k.var.name m h.0 in
    λ i. ordering_then (directed k.descending (value_cmp (kept d a k.var.name here i) (kept d b k.var.name here i))) (keys-forget d vars keys a b m h.1 i)

expanded-forget : (d : Bytes → Bool) (vars : List Var) (v : Var) (g : Generator) (r : Env) → Misses d vars → AreOver vars (item_exprs g) → Misses d (v ∷ []) → map (forget d) (expanded v g r) ≡ expanded v g (forget d r)
expanded-forget d vars v g r m h own = each (items g r) ∙ ap (λ xs. map (λ x. with_new (v ∷ []) (x ∷ []) (forget d r)) xs) (sym (items-forget d vars g r m h))
  where
    each : (xs : List Value) → map (forget d) (map (λ x. with_new (v ∷ []) (x ∷ []) r) xs) ≡ map (λ x. with_new (v ∷ []) (x ∷ []) (forget d r)) xs
    each [] = refl
    each (x ∷ xs) = λ i. new-forget d (v ∷ []) (x ∷ []) r own i ∷ each xs i

distinct-roll : (x : L.Plan-F Plan) → has_distinct (roll-Plan x) ≡ distinct_step (map-Plan Plan Bool has_distinct x)
unfolding has_distinct
distinct-roll x = fold-roll-Plan Bool distinct_step x

map-take-drop : {X Y : Type 0} (f : X → Y) (n k : ℕ) (xs : List X) → map f (take n (drop k xs)) ≡ take n (drop k (map f xs))
map-take-drop f n k xs = sym (take-map f n (drop k xs)) ∙ ap (take n) (sym (drop-map f k xs))

filter-forget : (d : Bytes → Bool) (vars : List Var) (c : Expr) (rows : List Env) → Misses d vars → IsOver vars c → map (forget d) (filter (holds c) rows) ≡ filter (holds c) (map (forget d) rows)
filter-forget d vars c rows m h = ap (map (forget d)) (filter-alike (holds c) (λ r. holds c (forget d r)) (λ r. ap is_true (sym (sees_forget d vars m c h r))) rows) ∙ map-filter (forget d) (holds c) rows

map-swap : {X : Type 0} (f g : X → X) → ((x : X) → f (g x) ≡ g (f x)) → (xs : List X) → map f (map g xs) ≡ map g (map f xs)
map-swap f g h [] = refl
map-swap f g h (x ∷ xs) = λ i. h x i ∷ map-swap f g h xs i

pub map-both : {X Y : Type 0} (f : X → Y) (xs ys : List X) → map f (xs ++ ys) ≡ map f xs ++ map f ys
map-both f [] ys = refl
map-both f (x ∷ xs) ys = ap (λ zs. f x ∷ zs) (map-both f xs ys)

flat-forget : (d : Bytes → Bool) (vars : List Var) (v : Var) (g : Generator) (rows : List Env) → Misses d vars → AreOver vars (item_exprs g) → Misses d (v ∷ []) → map (forget d) (flat_map (expanded v g) rows) ≡ flat_map (expanded v g) (map (forget d) rows)
flat-forget d vars v g [] m h own = refl
flat-forget d vars v g (r ∷ rows) m h own = map-both (forget d) (expanded v g r) (flat_map (expanded v g) rows) ∙ (λ i. expanded-forget d vars v g r m h own i ++ flat-forget d vars v g rows m h own i)

order-forget : (d : Bytes → Bool) (t : Bool) (xs ys zs : List Env) → map (forget d) xs ≡ zs → IsOrderOf t xs ys → IsOrderOf t zs (map (forget d) ys)
order-forget d true xs ys zs e o = ap (map (forget d)) o ∙ e
order-forget d false xs ys zs e o = subst (λ (us : List Env). IsPermutation us (map (forget d) ys)) e (IsPermutation-map (forget d) xs ys o)

right_part : (d : Bytes → Bool) (xs ys : List Var) → Misses d (xs ++ ys) → Misses d ys
right_part d xs ys m q e = not_right xs ys q (m q e)

left_part : (d : Bytes → Bool) (xs ys : List Var) → Misses d (xs ++ ys) → Misses d xs
left_part d xs ys m q e = not_left xs ys q (m q e)

misses_live : (d : Bytes → Bool) (p : Plan) (there : List Var) → FitsEach p true there → Misses d there → Misses d (makes p) → Misses d (live p there)
misses_live d p there fit t m q e = only_made p true there fit q (t q e) (m q e)

abbrev pub Forgets : Plan → Type 0
Forgets p = (there : List Var) → FitsEach p true there → has_distinct p ≡ false → (d : Bytes → Bool) → Misses d there → Misses d (makes p)
    → (b : Bool) (sets : Sets) (given known : List Var) (outer rows : List Env) → Allows p b sets given outer rows → Allows p b sets known (map (forget d) outer) (map (forget d) rows)

module _ {S : Type 0} (up : S → Plan) (ih : (s : S) → Forgets (up s)) (there : List Var) (d : Bytes → Bool) (t : Misses d there) (b : Bool) (sets : Sets) (given known : List Var) (outer rows : List Env) where
  lives : (s : S) → FitsEach (up s) true there → Misses d (makes (up s)) → Misses d (live (up s) there)
  lives s fit m = misses_live d (up s) there fit t m

  step : (y : L.Plan-F S) → EachLayer (map-Plan S Plan up y) true there → distinct_step (map-Plan Plan Bool has_distinct (map-Plan S Plan up y)) ≡ false
      → Misses d (makes_step (map-Plan Plan (List Var) makes (map-Plan S Plan up y)))
      → Layer (map-Plan S Plan up y) b sets given outer rows → Layer (map-Plan S Plan up y) b sets known (map (forget d) outer) (map (forget d) rows)
  step (L.Scan set vars) h e m o = absurd (no h)
  step L.Empty h e m o = absurd (no h)
  step L.Nested h e m o = IsPermutation-map (forget d) outer rows o
  step (L.Assign made s) h e m o = let own = map (λ m. m.0) made in let low = left_part d (makes (up s)) own m in (map (forget d) o.0, ih s there h.0.0 e d t low b sets given known outer o.0 o.1, ap (map (forget d)) o.2 ∙ map-swap (forget d) (assigned made) (λ r. assigned-forget d (live (up s) there) made r (lives s h.0.0 low) h.1 (right_part d (makes (up s)) own m)) o.0)
  step (L.Select c s) h e m o = (map (forget d) o.0, ih s there h.0.0 e d t m b sets given known outer o.0 o.1, ap (map (forget d)) o.2 ∙ filter-forget d (live (up s) there) c o.0 (lives s h.0.0 m) h.1)
  step (L.Project vars s) h e m o = (map (forget d) o.0, ih s there h.0.0 e d t m b sets given known outer o.0 o.1, ap (map (forget d)) o.2 ∙ map-swap (forget d) (cut vars) (cut-forget d vars) o.0)
  step (L.Unnest v its s) h e m o = let low = left_part d (makes (up s)) (v ∷ []) m in (map (forget d) o.0, ih s there h.0.0 e d t low b sets given known outer o.0 o.1, order-forget d (ordered (up s)) (flat_map (expanded v its) o.0) rows _ (flat-forget d (live (up s) there) v its o.0 (lives s h.0.0 low) h.1 (right_part d (makes (up s)) (v ∷ []) m)) o.2)
  step (L.Subplan k s) h e m o = absurd (no h.1)
  step (L.Join c l r) h e m o = absurd (no h.2)
  step (L.LeftJoin c l r) h e m o = absurd (no h.2)
  step (L.Group keys k s) h e m o = absurd (no h.1)
  step (L.Distinct s) h e m o = absurd (no e)
  step (L.Union made ls rs l r) h e m o = absurd (no h.2)
  step (L.Aggregate made s) h e m o = let own = map (λ m. m.0) made in let low = left_part d (makes (up s)) own m in (
    map (forget d) o.0,
    ih s there h.0.0 e d t low b sets given known outer o.0 o.1,
    ap (map (forget d)) o.2 ∙ ap (λ (r : Env). r ∷ []) (forget-within d own (agg_row made o.0) (within-bind own _) (right_part d (makes (up s)) own m)
        ∙ sym (agg_row-seen (forget d) made o.0 (sees_calls (forget d) (live (up s) there) (sees_forget d (live (up s) there) (lives s h.0.0 low)) made h.1))),
  )
  step (L.Order keys s) h e m o = (map (forget d) o.0, ih s there h.0.0 e d t m b sets given known outer o.0 o.1, (IsPermutation-map (forget d) o.0 rows o.2.0, IsSorted-map (forget d) (keys_cmp keys) rows (subst (λ (R : Env → Env → Ordering). IsSorted R rows) (λ i x y. sym (keys-forget d (live (up s) there) keys x y (lives s h.0.0 m) h.1) i) o.2.1)))
  step (L.Limit n k s) h e m o = (map (forget d) o.0, ih s there h.0 e d t m b sets given known outer o.0 o.1, ap (map (forget d)) o.2 ∙ map-take-drop (forget d) n k o.0)
  step (L.Check own c s) h e m o = absurd (no h.1)
  step (L.Result vars s) h e m o = absurd (no h.1)

layer_forgets : {S : Type 0} (up : S → Plan) → ((s : S) → Forgets (up s)) → (y : L.Plan-F S) → Forgets (roll-Plan (map-Plan S Plan up y))
layer_forgets {S} up ih y there fit e d t m b sets given known outer rows o =
    enroll (map-Plan S Plan up y) b sets known (map (forget d) outer) (map (forget d) rows)
    (step up ih there d t b sets given known outer rows y
    (subst (λ (z : Bool → List Var → Type 0). z true there) (each-roll (map-Plan S Plan up y)) fit)
    (sym (distinct-roll (map-Plan S Plan up y)) ∙ e)
    (subst (Misses d) (makes-roll (map-Plan S Plan up y)) m)
    (unroll (map-Plan S Plan up y) b sets given outer rows o))

-- what a nested plan without a distinct allows over some outer rows it allows, cut, over the rows cut of variables that are not given to it
pub forgets : (p : Plan) → Forgets p
forgets = ind-Plan Forgets (λ x y e. subst (λ (z : L.Plan-F Plan). Forgets (roll-Plan z)) e (layer_forgets (λ s. s.0) (λ s. s.1) y))
