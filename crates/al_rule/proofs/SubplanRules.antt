-- A select goes below a subplan: a nested plan gives a row for each row that the select drops, too.
use Rattle.std.proofs.Common.{◌≡◌, ◌≢◌, Bool, true, false, cond, List, [], ◌∷◌, map, filter, flat_map, take, drop, refl, ap, sym, subst, ◌∙◌, append-nil, arith}
use Rattle.std.specs.List.{All, AllByRecursion, AllZip}
use Rattle.std.specs.List.Sorted.{IsPermutation}
use Rattle.std.specs.Ordering.{is_lt}
use Rattle.std.proofs.lemmas.List.Elements.{recursion_from_All, All-from_recursion}
use Rattle.std.proofs.lemmas.List.Sorted.{IsPermutation-refl}
use Rattle.al_plan.specs.declared.expr.Var.{Var}
use Rattle.al_plan.specs.declared.expr.Expr.{Expr}
use Rattle.al_plan.specs.declared.plan.AggCall.{AggCall}
use Rattle.al_plan.specs.declared.plan.Plan.{Plan, map-Plan, roll-Plan, out-Plan, fold-roll-Plan, ind-Plan}
use Rattle.al_plan.specs.declared.plan.Plan.TheVariants as P
use Rattle.al_plan.specs.declared.plan.Plan.TheOpen as L
use Rattle.al_plan.specs.Eval.{Env, holds}
use Rattle.al_plan.specs.Allows.{Sets, Allows, live, cut, beside, assigned, expanded, agg_row, ordered, keys_cmp, Gives}
use Rattle.al_plan.specs.Refines.{Fit, FitsEach, IsOver, IsWithin, Replaces, is_aggregate, aggregate_step}
use Rattle.al_rule.specs.Reads.{ReadsNone}
use Rattle.al_plan.proofs.PlanLaws.{Layer, EachLayer, each-roll, from_Aggregate, allows_Select, allows_Subplan, from_Select, from_Subplan, live-Aggregate, live-Select, live-Subplan}
use Rattle.al_plan.proofs.Orders.{enroll}
use Rattle.al_plan.proofs.Moves.{pairs_from_apart}
use Rattle.al_plan.proofs.Within.{within}
use Rattle.al_rule.proofs.Operators.{rolls-out}
use Rattle.al_rule.proofs.Chains.{order_of_same}
use Rattle.al_rule.proofs.SelectOrder.{taken_in, one_way, sorted_from_up}
use Rattle.al_rule.proofs.SelectDistinct.{different}
use Rattle.al_rule.proofs.FitLaws.{out_Select, out_Subplan}
use Rattle.al_rule.proofs.Passing.{operator_Subplan, select_goes_below}
use Rattle.al_rule.proofs.SelectRules.{holds-past, over_less}

no : true ≡ false → ⊥
no e = cc

-- ---- a nested plan allows some list

abbrev GivesSome : Plan → Type 0
GivesSome p = (there : List Var) → FitsEach p true there → (b : Bool) (sets : Sets) (given : List Var) (outer : List Env) → All (IsWithin given) outer → (rows : List Env) × Allows p b sets given outer rows

all_fail : (xs : List Env) → AllByRecursion (λ (x : Env). false ≡ false) xs
all_fail [] = tt
all_fail (x ∷ xs) = (refl, all_fail xs)

module _ {S : Type 0} (up : S → Plan) (ih : (s : S) → GivesSome (up s)) (there : List Var) (b : Bool) (sets : Sets) (given : List Var) (outer : List Env) (inside : All (IsWithin given) outer) where
  some_rows : (y : L.Plan-F S) → EachLayer (map-Plan S Plan up y) true there → (rows : List Env) × Layer (map-Plan S Plan up y) b sets given outer rows
  some_rows (L.Scan set vars) f = absurd (no f)
  some_rows L.Empty f = absurd (no f)
  some_rows L.Nested f = (outer, IsPermutation-refl outer)
  some_rows (L.Assign made s) f = let o = ih s there f.0.0 b sets given outer inside in (map (assigned made) o.0, (o.0, o.1, refl))
  some_rows (L.Select c s) f = let o = ih s there f.0.0 b sets given outer inside in (filter (holds c) o.0, (o.0, o.1, refl))
  some_rows (L.Project vars s) f = let o = ih s there f.0.0 b sets given outer inside in (map (cut vars) o.0, (o.0, o.1, refl))
  some_rows (L.Unnest v its s) f = let o = ih s there f.0.0 b sets given outer inside in (flat_map (expanded v its) o.0, (o.0, o.1, order_of_same (ordered (up s)) _ _ refl))
  some_rows (L.Subplan n s) f = absurd (no f.1)
  some_rows (L.Join c l r) f = absurd (no f.2)
  some_rows (L.LeftJoin c l r) f = absurd (no f.2)
  some_rows (L.Group keys n s) f = absurd (no f.1)
  some_rows (L.Distinct s) f =
      let o = ih s there f.0 b sets given outer inside in
      let d = different (live (up s) given) o.0 (recursion_from_All (IsWithin (live (up s) given)) o.0 (within (up s) b sets given outer o.0 inside o.1)) in
      (d.kept, (o.0, o.1, record { within = d.inside; all = d.all; once = pairs_from_apart ◌≢◌ d.kept d.apart }))
  some_rows (L.Union made ls rs l r) f = absurd (no f.2)
  some_rows (L.Aggregate made s) f = let o = ih s there f.0.0 b sets given outer inside in (agg_row made o.0 ∷ [], (o.0, o.1, refl))
  some_rows (L.Order keys s) f =
      let o = ih s there f.0.0 b sets given outer inside in
      let lt = λ (x y : Env). is_lt (keys_cmp keys x y) in
      let all = taken_in lt (one_way keys) (λ x. false) o.0 [] tt (all_fail o.0) in
      (all.0, (o.0, o.1, (subst (λ (zs : List Env). IsPermutation zs all.0) (append-nil o.0) all.1, sorted_from_up lt all.0 all.2)))
  some_rows (L.Limit n k s) f = let o = ih s there f.0 b sets given outer inside in (take n (drop k o.0), (o.0, o.1, refl))
  some_rows (L.Check name c s) f = absurd (no f.1)
  some_rows (L.Result vars s) f = absurd (no f.1)

layer_gives : {S : Type 0} (up : S → Plan) → ((s : S) → GivesSome (up s)) → (y : L.Plan-F S) → GivesSome (roll-Plan (map-Plan S Plan up y))
layer_gives {S} up ih y there fit b sets given outer inside =
    let o = some_rows up ih there b sets given outer inside y (subst (λ (a : Bool → List Var → Type 0). a true there) (each-roll (map-Plan S Plan up y)) fit) in
    (o.0, enroll (map-Plan S Plan up y) b sets given outer o.0 o.1)

pub gives_some : (p : Plan) → GivesSome p
gives_some = ind-Plan GivesSome (λ x y e. subst (λ (z : L.Plan-F Plan). GivesSome (roll-Plan z)) e (layer_gives (λ s. s.0) (λ s. s.1) y))

-- ---- a nested plan is an aggregate

abbrev Aggregates : Plan → Type 0
Aggregates n = (made : List (Var × AggCall)) × (p : Plan) × (n ≡ P.Aggregate made p)

is_aggregate-roll : (x : L.Plan-F Plan) → is_aggregate (roll-Plan x) ≡ aggregate_step (map-Plan Plan Bool is_aggregate x)
unfolding is_aggregate
is_aggregate-roll x = fold-roll-Plan Bool aggregate_step x

layer_aggregates : (x : L.Plan-F Plan) → aggregate_step (map-Plan Plan Bool is_aggregate x) ≡ true → Aggregates (roll-Plan x)
layer_aggregates (L.Aggregate made p) e = (made, p, P.rolls-Aggregate made p)
layer_aggregates _ e = absurd (no (sym e))

aggregates : (n : Plan) → is_aggregate n ≡ true → Aggregates n
aggregates n e = subst Aggregates (rolls-out n) (layer_aggregates (out-Plan n) (sym (is_aggregate-roll (out-Plan n)) ∙ ap is_aggregate (rolls-out n) ∙ e))

same_live : (n : Plan) → is_aggregate n ≡ true → (given known : List Var) → live n given ≡ live n known
same_live n e given known = let (made, p, is) = aggregates n e in ap (λ (z : Plan). live z given) is ∙ live-Aggregate made p given ∙ sym (live-Aggregate made p known) ∙ sym (ap (λ (z : Plan). live z known) is)

-- the one row of a nested plan
gives_one : (n : Plan) (there : List Var) → FitsEach n true there → is_aggregate n ≡ true → (b : Bool) (sets : Sets) (given : List Var) (outer : List Env) → All (IsWithin given) outer → (inner : Env) × Allows n b sets given outer (inner ∷ [])
gives_one n there fit e b sets given outer inside =
    let some = gives_some n there fit b sets given outer inside in
    let (made, p, is) = aggregates n e in
    let o = from_Aggregate made p b sets given outer some.0 (subst (λ (z : Plan). Allows z b sets given outer some.0) is some.1) in
    (agg_row made o.0, subst (λ (zs : List Env). Allows n b sets given outer zs) o.2 some.1)

-- ---- rows with nested rows

abbrev Paired : Plan → Bool → Sets → List Var → Env → Env → Type 0
Paired n b sets vars r row = Gives (Allows n) b sets vars (r ∷ []) (λ inner. row ≡ beside (live n vars) inner r)

pair_up : (n : Plan) (there : List Var) → FitsEach n true there → is_aggregate n ≡ true → (b : Bool) (sets : Sets) (vars : List Var) (r : Env) → IsWithin vars r → (row : Env) × Paired n b sets vars r row
pair_up n there fit e b sets vars r w =
    let one = gives_one n there fit e b sets vars (r ∷ []) (All-from_recursion (IsWithin vars) (r ∷ []) (w, tt)) in
    (beside (live n vars) one.0 r, (one.0, one.1, refl))

abbrev Extended : Plan → Bool → Sets → List Var → Expr → List Env → List Env → Type 0
Extended n b sets vars e input rows = (more : List Env) × AllZip (Paired n b sets vars) input more × (rows ≡ filter (holds e) more)

-- a row that passes keeps its nested row, and one that fails gets one
one_more : (n : Plan) (b : Bool) (sets : Sets) (vars : List Var) (e : Expr) → ReadsNone (live n vars) e → (r row : Env) → Paired n b sets vars r row → holds e row ≡ holds e r
one_more n b sets vars e none r row pair = ap (holds e) pair.2 ∙ holds-past e (live n vars) pair.0 r none

extend : (n : Plan) (there : List Var) → FitsEach n true there → is_aggregate n ≡ true → (b : Bool) (sets : Sets) (vars : List Var) (e : Expr) → ReadsNone (live n vars) e
    → (input rows : List Env) → AllByRecursion (IsWithin vars) input → AllZip (Paired n b sets vars) (filter (holds e) input) rows → Extended n b sets vars e input rows
extend n there fit agg b sets vars e none [] [] w z = ([], z, refl)
extend n there fit agg b sets vars e none [] (row ∷ rows) w z = absurd z
extend n there fit agg b sets vars e none (r ∷ input) rows w z = go (holds e r) refl rows z (λ rest k. extend n there fit agg b sets vars e none input rest w.1 k)
  where
    go : (t : Bool) → holds e r ≡ t → (rows : List Env) → AllZip (Paired n b sets vars) (cond t (r ∷ filter (holds e) input) (filter (holds e) input)) rows
        → ((rest : List Env) → AllZip (Paired n b sets vars) (filter (holds e) input) rest → Extended n b sets vars e input rest) → Extended n b sets vars e (r ∷ input) rows
    go true h [] k below = absurd k
    go true h (row ∷ rows) k below =
        let more = below rows k.1 in
        (row ∷ more.0, (k.0, more.1), ap (λ zs. row ∷ zs) more.2 ∙ ap (λ u. cond u (row ∷ filter (holds e) more.0) (filter (holds e) more.0)) (sym (one_more n b sets vars e none r row k.0 ∙ h)))
    go false h rows k below =
        let more = below rows k in
        let new = pair_up n there fit agg b sets vars r w.0 in
        (new.0 ∷ more.0, (new.1, more.1), more.2 ∙ ap (λ u. cond u (new.0 ∷ filter (holds e) more.0) (filter (holds e) more.0)) (sym (one_more n b sets vars e none r new.0 new.1 ∙ h)))

pub below_subplan : (e : Expr) (n p : Plan) → ReadsNone (live n []) e → Fit (P.Select e (P.Subplan n p)) → Replaces (P.Subplan n (P.Select e p)) (P.Select e (P.Subplan n p))
below_subplan e n p none fit =
    let top = out_Select e (P.Subplan n p) fit in
    let sub = out_Subplan n p top.input in
    let apart : ReadsNone (live n (live p [])) e = subst (λ (vs : List Var). ReadsNone vs e) (same_live n sub.aggregates [] (live p [])) none in
    let reads = over_less (live p []) (live n (live p [])) e (subst (λ (vs : List Var). IsOver vs e) (live-Subplan n p []) top.over) apart in
    select_goes_below (P.Subplan n) (operator_Subplan n) e p fit reads (λ b sets rows h.
    let o = from_Subplan n (P.Select e p) b sets [] [] rows h in
    let s = from_Select e p b sets [] [] o.0 o.1 in
    let here : AllZip (Paired n b sets (live p [])) o.0 rows = subst (λ (vs : List Var). AllZip (Paired n b sets vs) o.0 rows) (live-Select e p []) o.2 in
    let kept : AllZip (Paired n b sets (live p [])) (filter (holds e) s.0) rows = subst (λ (zs : List Env). AllZip (Paired n b sets (live p [])) zs rows) s.2 here in
    let inputs = recursion_from_All (IsWithin (live p [])) s.0 (within p b sets [] [] s.0 (λ k d low. absurd (omega arith)) s.1) in
    let more = extend n (live p []) sub.inner sub.aggregates b sets (live p []) e apart s.0 rows inputs kept in
    allows_Select e (P.Subplan n p) b sets [] [] rows (more.0, allows_Subplan n p b sets [] [] more.0 (s.0, s.1, more.1), more.2))
