-- A nested plan fits where more variables are given to it, and an aggregate has its own variables alone.
use Rattle.std.proofs.Common.{◌≡◌, ◌||◌, Bool, true, false, List, [], ◌∷◌, ◌++◌, refl, ap, sym, subst, ◌∙◌}
use Rattle.std.specs.List.{AllByRecursion}
use Rattle.al_plan.specs.declared.expr.Var.{Var}
use Rattle.al_plan.specs.declared.expr.Expr.{Expr}
use Rattle.al_plan.specs.declared.plan.AggCall.{AggCall}
use Rattle.al_plan.specs.declared.plan.Plan.{Plan, map-Plan, roll-Plan, ind-Plan}
use Rattle.al_plan.specs.declared.plan.Plan.TheVariants as P
use Rattle.al_plan.specs.declared.plan.Plan.TheOpen as L
use Rattle.al_plan.specs.Eval.{Bytes}
use Rattle.al_plan.specs.Names.{names, agg_exprs, item_exprs}
use Rattle.al_plan.specs.Allows.{live, live_step, is_among}
use Rattle.al_plan.specs.Refines.{FitsEach, IsOver, AreOver, AreLive, AreAmong, is_aggregate}
use Rattle.al_plan.proofs.PlanLaws.{EachLayer, each-roll, aggregate-roll}
use Rattle.al_plan.proofs.Mono.{live_is}
use Rattle.al_plan.proofs.Within.{is_among-append}

-- each variable of the first list is one of the second
abbrev pub AreIn : List Var → List Var → Type 0
AreIn vars known = (q : Bytes) → is_among vars q ≡ true → is_among known q ≡ true

in_among : (vars known : List Var) → AreIn vars known → (qs : List Bytes) → AreAmong vars qs → AreAmong known qs
in_among vars known w [] h = tt
in_among vars known w (q ∷ qs) h = (w q h.0, in_among vars known w qs h.1)

in_over : (vars known : List Var) → AreIn vars known → (e : Expr) → IsOver vars e → IsOver known e
in_over vars known w e h = record { reads = in_among vars known w (names e) h.reads; arities = h.arities }

in_all : (vars known : List Var) → AreIn vars known → (es : List Expr) → AreOver vars es → AreOver known es
in_all vars known w [] h = tt
in_all vars known w (e ∷ es) h = (in_over vars known w e h.0, in_all vars known w es h.1)

in_calls : (vars known : List Var) → AreIn vars known → (made : List (Var × AggCall)) → AllByRecursion (λ m. AreOver vars (agg_exprs m.1)) made → AllByRecursion (λ m. AreOver known (agg_exprs m.1)) made
in_calls vars known w [] h = tt
in_calls vars known w (m ∷ made) h = (in_all vars known w (agg_exprs m.1) h.0, in_calls vars known w made h.1)

pub in_live : (vars known : List Var) → AreIn vars known → (us : List Var) → AreLive vars us → AreLive known us
in_live vars known w [] h = tt
in_live vars known w (u ∷ us) h = (w u.name h.0, in_live vars known w us h.1)

either : (a b c d : Bool) → (a ≡ true → c ≡ true) → (b ≡ true → d ≡ true) → (a || b) ≡ true → (c || d) ≡ true
either true b c d f g h = ap (λ t. t || d) (f refl)
either false b true d f g h = refl
either false b false d f g h = g h

in_append : (xs ys us vs : List Var) → AreIn xs us → AreIn ys vs → AreIn (xs ++ ys) (us ++ vs)
in_append xs ys us vs f g q h = is_among-append us vs q ∙ either (is_among xs q) (is_among ys q) (is_among us q) (is_among vs q) (f q) (g q) (sym (is_among-append xs ys q) ∙ h)

-- where more is given, it fits still, and no less is live
record Wide (given known : List Var) (p : Plan) : Type 0 where
  pub fits : FitsEach p true known
  pub vars : AreIn (live p given) (live p known)

no : true ≡ false → ⊥
no e = cc

abbrev Widens : Plan → Type 0
Widens p = (given known : List Var) → AreIn given known → FitsEach p true given → Wide given known p

module _ {S : Type 0} (up : S → Plan) (ih : (s : S) → Widens (up s)) (given known : List Var) (w : AreIn given known) where
  step_fits : (y : L.Plan-F S) → EachLayer (map-Plan S Plan up y) true given → EachLayer (map-Plan S Plan up y) true known
  step_fits (L.Scan set vars) h = absurd (no h)
  step_fits L.Empty h = absurd (no h)
  step_fits L.Nested h = refl
  step_fits (L.Assign made s) h = let i = ih s given known w h.0.0 in ((i.fits, h.0.1), in_all _ _ i.vars _ h.1)
  step_fits (L.Select c s) h = let i = ih s given known w h.0.0 in ((i.fits, h.0.1), in_over _ _ i.vars c h.1)
  step_fits (L.Project vars s) h = let i = ih s given known w h.0.0 in ((i.fits, h.0.1), in_live _ _ i.vars vars h.1, h.2)
  step_fits (L.Unnest v its s) h = let i = ih s given known w h.0.0 in ((i.fits, h.0.1), in_all _ _ i.vars (item_exprs its) h.1)
  step_fits (L.Subplan n s) h = absurd (no h.1)
  step_fits (L.Join c l r) h = absurd (no h.2)
  step_fits (L.LeftJoin c l r) h = absurd (no h.2)
  step_fits (L.Group keys n s) h = absurd (no h.1)
  step_fits (L.Distinct s) h = let i = ih s given known w h.0 in (i.fits, h.1)
  step_fits (L.Union made ls rs l r) h = absurd (no h.2)
  step_fits (L.Aggregate made s) h = let i = ih s given known w h.0.0 in ((i.fits, h.0.1), in_calls _ _ i.vars made h.1)
  step_fits (L.Order keys s) h = let i = ih s given known w h.0.0 in ((i.fits, h.0.1), in_live _ _ i.vars _ h.1)
  step_fits (L.Limit n k s) h = let i = ih s given known w h.0 in (i.fits, h.1)
  step_fits (L.Check own c s) h = absurd (no h.1)
  step_fits (L.Result vars s) h = absurd (no h.1)

  step_vars : (y : L.Plan-F S) → EachLayer (map-Plan S Plan up y) true given → AreIn (live_step (map-Plan Plan (List Var → List Var) live (map-Plan S Plan up y)) given) (live_step (map-Plan Plan (List Var → List Var) live (map-Plan S Plan up y)) known)
  step_vars (L.Scan set vars) h = absurd (no h)
  step_vars L.Empty h = absurd (no h)
  step_vars L.Nested h = w
  step_vars (L.Assign made s) h = in_append _ _ _ _ (ih s given known w h.0.0).vars (λ q e. e)
  step_vars (L.Select c s) h = (ih s given known w h.0.0).vars
  step_vars (L.Project vars s) h = λ q e. e
  step_vars (L.Unnest v its s) h = in_append _ _ _ _ (ih s given known w h.0.0).vars (λ q e. e)
  step_vars (L.Subplan n s) h = absurd (no h.1)
  step_vars (L.Join c l r) h = absurd (no h.2)
  step_vars (L.LeftJoin c l r) h = absurd (no h.2)
  step_vars (L.Group keys n s) h = absurd (no h.1)
  step_vars (L.Distinct s) h = (ih s given known w h.0).vars
  step_vars (L.Union made ls rs l r) h = absurd (no h.2)
  step_vars (L.Aggregate made s) h = λ q e. e
  step_vars (L.Order keys s) h = (ih s given known w h.0.0).vars
  step_vars (L.Limit n k s) h = (ih s given known w h.0).vars
  step_vars (L.Check own c s) h = absurd (no h.1)
  step_vars (L.Result vars s) h = absurd (no h.1)

layer_widens : {S : Type 0} (up : S → Plan) → ((s : S) → Widens (up s)) → (y : L.Plan-F S) → Widens (roll-Plan (map-Plan S Plan up y))
layer_widens {S} up ih y given known w fit =
    let here = subst (λ (z : Bool → List Var → Type 0). z true given) (each-roll (map-Plan S Plan up y)) fit in
    record {
      fits = subst (λ (z : Bool → List Var → Type 0). z true known) (sym (each-roll (map-Plan S Plan up y))) (step_fits up ih given known w y here);
      vars = λ q e. ap (λ vs. is_among vs q) (live_is (map-Plan S Plan up y) known) ∙ step_vars up ih given known w y here q (ap (λ vs. is_among vs q) (sym (live_is (map-Plan S Plan up y) given)) ∙ e);
    }

widens : (p : Plan) → Widens p
widens = ind-Plan Widens (λ x y e. subst (λ (z : L.Plan-F Plan). Widens (roll-Plan z)) e (layer_widens (λ s. s.0) (λ s. s.1) y))

pub fits_wider : (p : Plan) (given known : List Var) → AreIn given known → FitsEach p true given → FitsEach p true known
fits_wider p given known w fit = (widens p given known w fit).fits

-- ---- a plan whose root is an aggregate

abbrev pub IsAggregation : Plan → Type 0
IsAggregation p = (made : List (Var × AggCall)) × (x : Plan) × (p ≡ P.Aggregate made x)

abbrev Aggregates : Plan → Type 0
Aggregates p = is_aggregate p ≡ true → IsAggregation p

no_aggregate : {X : Type 0} → false ≡ true → X
no_aggregate e = cc

layer_aggregates : {S : Type 0} (up : S → Plan) (y : L.Plan-F S) → Aggregates (roll-Plan (map-Plan S Plan up y))
layer_aggregates up (L.Scan set vars) e = no_aggregate (sym (aggregate-roll (L.Scan set vars)) ∙ e)
layer_aggregates up L.Empty e = no_aggregate (sym (aggregate-roll L.Empty) ∙ e)
layer_aggregates up L.Nested e = no_aggregate (sym (aggregate-roll L.Nested) ∙ e)
layer_aggregates up (L.Assign made s) e = no_aggregate (sym (aggregate-roll (L.Assign made (up s))) ∙ e)
layer_aggregates up (L.Select c s) e = no_aggregate (sym (aggregate-roll (L.Select c (up s))) ∙ e)
layer_aggregates up (L.Project vars s) e = no_aggregate (sym (aggregate-roll (L.Project vars (up s))) ∙ e)
layer_aggregates up (L.Unnest v its s) e = no_aggregate (sym (aggregate-roll (L.Unnest v its (up s))) ∙ e)
layer_aggregates up (L.Subplan m s) e = no_aggregate (sym (aggregate-roll (L.Subplan (up m) (up s))) ∙ e)
layer_aggregates up (L.Join c l r) e = no_aggregate (sym (aggregate-roll (L.Join c (up l) (up r))) ∙ e)
layer_aggregates up (L.LeftJoin c l r) e = no_aggregate (sym (aggregate-roll (L.LeftJoin c (up l) (up r))) ∙ e)
layer_aggregates up (L.Group keys m s) e = no_aggregate (sym (aggregate-roll (L.Group keys (up m) (up s))) ∙ e)
layer_aggregates up (L.Distinct s) e = no_aggregate (sym (aggregate-roll (L.Distinct (up s))) ∙ e)
layer_aggregates up (L.Union made ls rs l r) e = no_aggregate (sym (aggregate-roll (L.Union made ls rs (up l) (up r))) ∙ e)
layer_aggregates up (L.Aggregate made s) e = (made, up s, P.rolls-Aggregate made (up s))
layer_aggregates up (L.Order keys s) e = no_aggregate (sym (aggregate-roll (L.Order keys (up s))) ∙ e)
layer_aggregates up (L.Limit k m s) e = no_aggregate (sym (aggregate-roll (L.Limit k m (up s))) ∙ e)
layer_aggregates up (L.Check own c s) e = no_aggregate (sym (aggregate-roll (L.Check own c (up s))) ∙ e)
layer_aggregates up (L.Result vars s) e = no_aggregate (sym (aggregate-roll (L.Result vars (up s))) ∙ e)

pub aggregation : (p : Plan) → is_aggregate p ≡ true → IsAggregation p
aggregation = ind-Plan Aggregates (λ x y e. subst (λ (z : L.Plan-F Plan). Aggregates (roll-Plan z)) e (layer_aggregates (λ s. s.0) y))
