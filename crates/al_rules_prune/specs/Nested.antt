-- Nested plans over fewer outer variables.
use Rattle.std.proofs.Common.{◌≡◌, Bool, true, false, List, [], ◌∷◌, ◌++◌, map, flat_map, ap, sym, subst, ◌∙◌}
use Rattle.std.specs.List.{AllByRecursion}
use Rattle.al_plan.specs.declared.expr.Var.{Var}
use Rattle.al_plan.specs.declared.expr.Expr.{Expr}
use Rattle.al_plan.specs.declared.plan.OrderKey.{OrderKey}
use Rattle.al_plan.specs.declared.plan.AggCall.{AggCall}
use Rattle.al_plan.specs.declared.plan.Plan.{Plan, map-Plan, roll-Plan, out-Plan, ind-Plan}
use Rattle.al_plan.specs.declared.plan.Plan.TheOpen as L
use Rattle.al_plan.specs.Eval.{Bytes, Env}
use Rattle.al_plan.specs.Names.{names, agg_exprs, item_exprs}
use Rattle.al_plan.specs.Allows.{Sets, Allows, live, live_step, is_among}
use Rattle.al_plan.specs.Refines.{FitsEach, AreAmong, AreLive, AreOver, IsOver, IsWithin, makes, is_aggregate, aggregate_step}
use Rattle.al_plan.proofs.Bools.{no}
use Rattle.al_plan.proofs.PlanLaws.{EachLayer, each-roll, live-roll, makes-roll, aggregate-roll}
use Rattle.al_plan.proofs.Orders.{unroll}
use Rattle.al_plan.proofs.Within.{not_right, within-bind}
use Rattle.al_rule.proofs.Operators.{rolls-out}
use Rattle.al_rules_prune.specs.Reading.{reads, reads_step}
use Rattle.al_rules_prune.specs.Kept.{among_append}
use Rattle.al_rules_prune.specs.Forget.{reads-roll}

-- where it is one of the first variables, it is one of the second
abbrev pub Passes : List Var → List Var → Bytes → Type 0
Passes given known q = is_among given q ≡ true → is_among known q ≡ true

-- ---- what is live over fewer outer variables

abbrev Follows : Plan → Type 0
Follows p = (q : Bytes) (given known : List Var) → Passes given known q → Passes (live p given) (live p known) q

module _ {S : Type 0} (up : S → Plan) (ih : (s : S) → Follows (up s)) (q : Bytes) (given known : List Var) (h : Passes given known q) where
  follow_step : (y : L.Plan-F S) → Passes (live_step (map-Plan Plan (List Var → List Var) live (map-Plan S Plan up y)) given) (live_step (map-Plan Plan (List Var → List Var) live (map-Plan S Plan up y)) known) q
  follow_step (L.Scan set vars) e = e
  follow_step L.Empty e = e
  follow_step L.Nested e = h e
  follow_step (L.Assign made s) e = let own = map (λ (m : Var × Expr). m.0) made in among_append (live (up s) given) own (live (up s) known) own q e (ih s q given known h) (λ t. t)
  follow_step (L.Select c s) e = ih s q given known h e
  follow_step (L.Project vars s) e = e
  follow_step (L.Unnest v its s) e = among_append (live (up s) given) (v ∷ []) (live (up s) known) (v ∷ []) q e (ih s q given known h) (λ t. t)
  follow_step (L.Subplan m s) e = among_append (live (up s) given) (live (up m) (live (up s) given)) (live (up s) known) (live (up m) (live (up s) known)) q e (ih s q given known h) (ih m q (live (up s) given) (live (up s) known) (ih s q given known h))
  follow_step (L.Join c l r) e = among_append (live (up l) given) (live (up r) given) (live (up l) known) (live (up r) known) q e (ih l q given known h) (ih r q given known h)
  follow_step (L.LeftJoin c l r) e = among_append (live (up l) given) (live (up r) given) (live (up l) known) (live (up r) known) q e (ih l q given known h) (ih r q given known h)
  follow_step (L.Group keys m s) e = let own = map (λ (k : Var × Var). k.0) keys in among_append own (live (up m) (live (up s) given)) own (live (up m) (live (up s) known)) q e (λ t. t) (ih m q (live (up s) given) (live (up s) known) (ih s q given known h))
  follow_step (L.Distinct s) e = ih s q given known h e
  follow_step (L.Union made ls rs l r) e = e
  follow_step (L.Aggregate made s) e = e
  follow_step (L.Order keys s) e = ih s q given known h e
  follow_step (L.Limit n k s) e = ih s q given known h e
  follow_step (L.Check own c s) e = ih s q given known h e
  follow_step (L.Result vars s) e = e

layer_follows : {S : Type 0} (up : S → Plan) → ((s : S) → Follows (up s)) → (y : L.Plan-F S) → Follows (roll-Plan (map-Plan S Plan up y))
layer_follows {S} up ih y q given known h e =
    ap (λ (f : List Var → List Var). is_among (f known) q) (live-roll (map-Plan S Plan up y)) ∙ follow_step up ih q given known h y (ap (λ (f : List Var → List Var). is_among (f given) q) (sym (live-roll (map-Plan S Plan up y))) ∙ e)

follows : (p : Plan) → Follows p
follows = ind-Plan Follows (λ x y e. subst (λ (z : L.Plan-F Plan). Follows (roll-Plan z)) e (layer_follows (λ s. s.0) (λ s. s.1) y))

-- ---- what fits over fewer outer variables

abbrev pub PassAll : List Var → List Var → List Bytes → Type 0
PassAll given known = AllByRecursion (Passes given known)

halves : (given known : List Var) (xs ys : List Bytes) → PassAll given known (xs ++ ys) → PassAll given known xs × PassAll given known ys
halves given known [] ys h = (tt, h)
halves given known (x ∷ xs) ys h = let more = halves given known xs ys h.1 in ((h.0, more.0), more.1)

module _ (p : Plan) (given known : List Var) where
  names_pass : (qs : List Bytes) → PassAll given known qs → AreAmong (live p given) qs → AreAmong (live p known) qs
  names_pass [] h g = tt
  names_pass (q ∷ qs) h g = (follows p q given known h.0 g.0, names_pass qs h.1 g.1)

  over_pass : (e : Expr) → PassAll given known (names e) → IsOver (live p given) e → IsOver (live p known) e
  over_pass e h g = record { reads = names_pass (names e) h g.reads; arities = g.arities }

  exprs_pass : (es : List Expr) → PassAll given known (flat_map names es) → AreOver (live p given) es → AreOver (live p known) es
  exprs_pass [] h g = tt
  exprs_pass (e ∷ es) h g = let both = halves given known (names e) (flat_map names es) h in (over_pass e both.0 g.0, exprs_pass es both.1 g.1)

  made_pass : (made : List (Var × Expr)) → PassAll given known (flat_map (λ m. names m.1) made) → AreOver (live p given) (map (λ m. m.1) made) → AreOver (live p known) (map (λ m. m.1) made)
  made_pass [] h g = tt
  made_pass (m ∷ made) h g = let both = halves given known (names m.1) (flat_map (λ m. names m.1) made) h in (over_pass m.1 both.0 g.0, made_pass made both.1 g.1)

  aggs_pass : (made : List (Var × AggCall)) → PassAll given known (flat_map (λ m. flat_map names (agg_exprs m.1)) made) → AllByRecursion (λ m. AreOver (live p given) (agg_exprs m.1)) made → AllByRecursion (λ m. AreOver (live p known) (agg_exprs m.1)) made
  aggs_pass [] h g = tt
  aggs_pass (m ∷ made) h g = let both = halves given known (flat_map names (agg_exprs m.1)) (flat_map (λ m. flat_map names (agg_exprs m.1)) made) h in (exprs_pass (agg_exprs m.1) both.0 g.0, aggs_pass made both.1 g.1)

  vars_pass : (vars : List Var) → PassAll given known (map (λ v. v.name) vars) → AreLive (live p given) vars → AreLive (live p known) vars
  vars_pass [] h g = tt
  vars_pass (v ∷ vars) h g = (follows p v.name given known h.0 g.0, vars_pass vars h.1 g.1)

  keys_pass : (keys : List OrderKey) → PassAll given known (map (λ k. k.var.name) keys) → AreLive (live p given) (map (λ k. k.var) keys) → AreLive (live p known) (map (λ k. k.var) keys)
  keys_pass [] h g = tt
  keys_pass (k ∷ keys) h g = (follows p k.var.name given known h.0 g.0, keys_pass keys h.1 g.1)

abbrev Suits : Plan → Type 0
Suits p = (given known : List Var) → PassAll given known (reads p) → FitsEach p true given → FitsEach p true known

module _ {S : Type 0} (up : S → Plan) (ih : (s : S) → Suits (up s)) (given known : List Var) where
  suit_step : (y : L.Plan-F S) → PassAll given known (reads_step (map-Plan Plan (List Bytes) reads (map-Plan S Plan up y))) → EachLayer (map-Plan S Plan up y) true given → EachLayer (map-Plan S Plan up y) true known
  suit_step (L.Scan set vars) h k = absurd (no k)
  suit_step L.Empty h k = absurd (no k)
  suit_step L.Nested h k = k
  suit_step (L.Assign made s) h k = let both = halves given known (reads (up s)) (flat_map (λ m. names m.1) made) h in ((ih s given known both.0 k.0.0, k.0.1), made_pass (up s) given known made both.1 k.1)
  suit_step (L.Select c s) h k = let both = halves given known (reads (up s)) (names c) h in ((ih s given known both.0 k.0.0, k.0.1), over_pass (up s) given known c both.1 k.1)
  suit_step (L.Project vars s) h k = let both = halves given known (reads (up s)) (map (λ v. v.name) vars) h in ((ih s given known both.0 k.0.0, k.0.1), vars_pass (up s) given known vars both.1 k.1, k.2)
  suit_step (L.Unnest v its s) h k = let both = halves given known (reads (up s)) (flat_map names (item_exprs its)) h in ((ih s given known both.0 k.0.0, k.0.1), exprs_pass (up s) given known (item_exprs its) both.1 k.1)
  suit_step (L.Subplan m s) h k = absurd (no k.1)
  suit_step (L.Join c l r) h k = absurd (no k.2)
  suit_step (L.LeftJoin c l r) h k = absurd (no k.2)
  suit_step (L.Group keys m s) h k = absurd (no k.1)
  suit_step (L.Distinct s) h k = (ih s given known h k.0, k.1)
  suit_step (L.Union made ls rs l r) h k = absurd (no k.2)
  suit_step (L.Aggregate made s) h k = let both = halves given known (reads (up s)) (flat_map (λ m. flat_map names (agg_exprs m.1)) made) h in ((ih s given known both.0 k.0.0, k.0.1), aggs_pass (up s) given known made both.1 k.1)
  suit_step (L.Order keys s) h k = let both = halves given known (reads (up s)) (map (λ k. k.var.name) keys) h in ((ih s given known both.0 k.0.0, k.0.1), keys_pass (up s) given known keys both.1 k.1)
  suit_step (L.Limit n m s) h k = (ih s given known h k.0, k.1)
  suit_step (L.Check own c s) h k = absurd (no k.1)
  suit_step (L.Result vars s) h k = absurd (no k.1)

layer_suits : {S : Type 0} (up : S → Plan) → ((s : S) → Suits (up s)) → (y : L.Plan-F S) → Suits (roll-Plan (map-Plan S Plan up y))
layer_suits {S} up ih y given known h k =
    subst (λ (z : Bool → List Var → Type 0). z true known) (sym (each-roll (map-Plan S Plan up y)))
    (suit_step up ih given known y (subst (PassAll given known) (reads-roll (map-Plan S Plan up y)) h) (subst (λ (z : Bool → List Var → Type 0). z true given) (each-roll (map-Plan S Plan up y)) k))

-- a nested plan that fits still does where all of the outer variables that it reads stay
pub suits : (p : Plan) → Suits p
suits = ind-Plan Suits (λ x y e. subst (λ (z : L.Plan-F Plan). Suits (roll-Plan z)) e (layer_suits (λ s. s.0) (λ s. s.1) y))

-- ---- a nested plan with an aggregate at its root

-- its variables are its own
pub record Aggregates (p : Plan) : Type 0 where
  pub own : List Var
  pub live_is : (given : List Var) → live p given ≡ own
  pub made : (q : Bytes) → is_among (makes p) q ≡ false → is_among own q ≡ false
  pub rows : (b : Bool) (sets : Sets) (given : List Var) (outer rows : List Env) → Allows p b sets given outer rows → AllByRecursion (IsWithin own) rows

aggregates_layer : (x : L.Plan-F Plan) → aggregate_step (map-Plan Plan Bool is_aggregate x) ≡ true → Aggregates (roll-Plan x)
aggregates_layer (L.Aggregate made s) e =
    let own = map (λ (m : Var × AggCall). m.0) made in record {
      own = own;
      live_is = λ given. ap (λ (f : List Var → List Var). f given) (live-roll (L.Aggregate made s));
      made = λ q m. not_right (makes s) own q (ap (λ vs. is_among vs q) (sym (makes-roll (L.Aggregate made s))) ∙ m);
      rows = λ b sets given outer rows k.
          let o = unroll (L.Aggregate made s) b sets given outer rows k in
          subst (AllByRecursion (IsWithin own)) (sym o.2) (within-bind own _, tt);
    }
aggregates_layer _ e = absurd (no (sym e))

pub aggregates : (p : Plan) → is_aggregate p ≡ true → Aggregates p
aggregates p e = subst Aggregates (rolls-out p) (aggregates_layer (out-Plan p) (sym (aggregate-roll (out-Plan p)) ∙ ap is_aggregate (rolls-out p) ∙ e))
