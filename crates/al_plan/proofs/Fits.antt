-- What a layer asks of its inputs, and what it scans and makes, where inputs stand for others.
use Rattle.std.proofs.Common.{◌≡◌, Bool, true, List, [], ◌∷◌, map, refl, sym, subst, ◌∙◌, arith}
use Rattle.std.specs.List.{AllByRecursion}
use Rattle.std.proofs.lemmas.List.Sorted.{IsPermutation-refl, length_permutation}
use Rattle.al_plan.specs.declared.expr.Var.{Var}
use Rattle.al_plan.specs.declared.expr.Expr.{Expr}
use Rattle.al_plan.specs.declared.plan.Plan.{Plan, map-Plan, roll-Plan, ind-Plan}
use Rattle.al_plan.specs.declared.plan.Plan.TheOpen as L
use Rattle.al_plan.specs.Eval.{Bytes}
use Rattle.al_plan.specs.Names.{names, agg_exprs, item_exprs}
use Rattle.al_plan.specs.Allows.{live}
use Rattle.al_plan.specs.Refines.{FitsEach, IsOver, AreOver, AreLive, AreAmong, InputFits, result_of, is_aggregate, Narrow, AtMost64}
use Rattle.al_plan.proofs.PlanLaws.{EachLayer, each-roll, NarrowLayer, narrow-roll, result-roll}
use Rattle.al_plan.proofs.Mono.{SameVars, same_names, same-append, Inputs, inputs_all, always}

among-same : (xs ys : List Var) → SameVars xs ys → (qs : List Bytes) → AreAmong ys qs → AreAmong xs qs
among-same xs ys e [] h = tt
among-same xs ys e (q ∷ qs) h = (same_names xs ys e q ∙ h.0, among-same xs ys e qs h.1)

live-same : (xs ys : List Var) → SameVars xs ys → (vs : List Var) → AreLive ys vs → AreLive xs vs
live-same xs ys e [] h = tt
live-same xs ys e (v ∷ vs) h = (same_names xs ys e v.name ∙ h.0, live-same xs ys e vs h.1)

over-same : (xs ys : List Var) → SameVars xs ys → (c : Expr) → IsOver ys c → IsOver xs c
over-same xs ys e c h = record { reads = among-same xs ys e (names c) h.reads; arities = h.arities }

all-over-same : (xs ys : List Var) → SameVars xs ys → (es : List Expr) → AreOver ys es → AreOver xs es
all-over-same xs ys e [] h = tt
all-over-same xs ys e (c ∷ cs) h = (over-same xs ys e c h.0, all-over-same xs ys e cs h.1)

each-over-same : {A : Type 0} (f : A → List Expr) (xs ys : List Var) → SameVars xs ys → (ms : List A) → AllByRecursion (λ m. AreOver ys (f m)) ms → AllByRecursion (λ m. AreOver xs (f m)) ms
each-over-same f xs ys e [] h = tt
each-over-same f xs ys e (m ∷ ms) h = (all-over-same xs ys e (f m) h.0, each-over-same f xs ys e ms h.1)

-- `q` fits where `p` does, at variables that are the same
pub record Suits (inside : Bool) (given known : List Var) (q p : Plan) : Type 0 where
  pub vars : SameVars (live q given) (live p known)
  pub root : result_of q ≡ result_of p
  pub fits : FitsEach p inside known → FitsEach q inside given

abbrev pub InnerSuits : (S : Type 0) → (S → Plan) → (S → Plan) → L.Plan-F S → Type 0
InnerSuits S f g (L.Subplan n s) = ((given known : List Var) → SameVars given known → Suits true given known (f n) (g n)) × (is_aggregate (f n) ≡ is_aggregate (g n))
InnerSuits S f g (L.Group keys n s) = ((given known : List Var) → SameVars given known → Suits true given known (f n) (g n)) × (is_aggregate (f n) ≡ is_aggregate (g n))
InnerSuits S f g _ = Unit {0}

module _ {S : Type 0} (f g : S → Plan) (inside : Bool) (given known : List Var) where
  abbrev Parts : L.Plan-F S → Type 0
  Parts y = Inputs S (λ s. Suits inside given known (f s) (g s)) y

  input : (s : S) → Suits inside given known (f s) (g s) → InputFits (g s) (FitsEach (g s)) inside known → InputFits (f s) (FitsEach (f s)) inside given
  input s i h = (i.fits h.0, i.root ∙ h.1)

  step_each : (y : L.Plan-F S) → InnerSuits S f g y → Parts y → EachLayer (map-Plan S Plan g y) inside known → EachLayer (map-Plan S Plan f y) inside given
  step_each (L.Scan set vars) n i h = h
  step_each L.Empty n i h = h
  step_each L.Nested n i h = h
  step_each (L.Assign made s) n i h = (input s i h.0, all-over-same _ _ i.vars _ h.1)
  step_each (L.Select c s) n i h = (input s i h.0, over-same _ _ i.vars c h.1)
  step_each (L.Project vars s) n i h = (input s i h.0, live-same _ _ i.vars vars h.1, h.2)
  step_each (L.Unnest v its s) n i h = (input s i h.0, all-over-same _ _ i.vars (item_exprs its) h.1)
  step_each (L.Subplan m s) n i h = (input s i h.0, h.1, (n.0 _ _ i.vars).fits h.2, n.1 ∙ h.3)
  step_each (L.Join c l r) n i h = (input l i.0 h.0, input r i.1 h.1, h.2, over-same _ _ (same-append _ _ _ _ i.0.vars i.1.vars) c h.3)
  step_each (L.LeftJoin c l r) n i h = (input l i.0 h.0, input r i.1 h.1, h.2, over-same _ _ (same-append _ _ _ _ i.0.vars i.1.vars) c h.3)
  step_each (L.Group keys m s) n i h = (input s i h.0, h.1, live-same _ _ i.vars _ h.2, (n.0 _ _ i.vars).fits h.3, n.1 ∙ h.4)
  step_each (L.Distinct s) n i h = input s i h
  step_each (L.Union made ls rs l r) n i h = (input l i.0 h.0, input r i.1 h.1, h.2, live-same _ _ i.0.vars ls h.3, live-same _ _ i.1.vars rs h.4, h.5, h.6)
  step_each (L.Aggregate made s) n i h = (input s i h.0, each-over-same (λ m. agg_exprs m.1) _ _ i.vars made h.1)
  step_each (L.Order keys s) n i h = (input s i h.0, live-same _ _ i.vars _ h.1)
  step_each (L.Limit k m s) n i h = input s i h
  step_each (L.Check name c s) n i h = (input s i h.0, h.1, over-same _ _ i.vars c h.2)
  step_each (L.Result vars s) n i h = (input s i h.0, h.1, live-same _ _ i.vars vars h.2, h.3)

  pub step_fits : (y : L.Plan-F S) → InnerSuits S f g y → Parts y → FitsEach (roll-Plan (map-Plan S Plan g y)) inside known → FitsEach (roll-Plan (map-Plan S Plan f y)) inside given
  step_fits y n i h = subst (λ (a : Bool → List Var → Type 0). a inside given) (sym (each-roll (map-Plan S Plan f y))) (step_each y n i (subst (λ (a : Bool → List Var → Type 0). a inside known) (each-roll (map-Plan S Plan g y)) h))

-- a layer's result list and whether it is an aggregate say nothing of its inputs
pub root-same : {S : Type 0} (f g : S → Plan) (y : L.Plan-F S) → result_of (roll-Plan (map-Plan S Plan f y)) ≡ result_of (roll-Plan (map-Plan S Plan g y))
root-same f g (L.Scan set vars) = refl
root-same f g L.Empty = refl
root-same f g L.Nested = refl
root-same f g (L.Assign made s) = result-roll (L.Assign made (f s)) ∙ sym (result-roll (L.Assign made (g s)))
root-same f g (L.Select c s) = result-roll (L.Select c (f s)) ∙ sym (result-roll (L.Select c (g s)))
root-same f g (L.Project vars s) = result-roll (L.Project vars (f s)) ∙ sym (result-roll (L.Project vars (g s)))
root-same f g (L.Unnest v its s) = result-roll (L.Unnest v its (f s)) ∙ sym (result-roll (L.Unnest v its (g s)))
root-same f g (L.Subplan m s) = result-roll (L.Subplan (f m) (f s)) ∙ sym (result-roll (L.Subplan (g m) (g s)))
root-same f g (L.Join c l r) = result-roll (L.Join c (f l) (f r)) ∙ sym (result-roll (L.Join c (g l) (g r)))
root-same f g (L.LeftJoin c l r) = result-roll (L.LeftJoin c (f l) (f r)) ∙ sym (result-roll (L.LeftJoin c (g l) (g r)))
root-same f g (L.Group keys m s) = result-roll (L.Group keys (f m) (f s)) ∙ sym (result-roll (L.Group keys (g m) (g s)))
root-same f g (L.Distinct s) = result-roll (L.Distinct (f s)) ∙ sym (result-roll (L.Distinct (g s)))
root-same f g (L.Union made ls rs l r) = result-roll (L.Union made ls rs (f l) (f r)) ∙ sym (result-roll (L.Union made ls rs (g l) (g r)))
root-same f g (L.Aggregate made s) = result-roll (L.Aggregate made (f s)) ∙ sym (result-roll (L.Aggregate made (g s)))
root-same f g (L.Order keys s) = result-roll (L.Order keys (f s)) ∙ sym (result-roll (L.Order keys (g s)))
root-same f g (L.Limit k m s) = result-roll (L.Limit k m (f s)) ∙ sym (result-roll (L.Limit k m (g s)))
root-same f g (L.Check name c s) = result-roll (L.Check name c (f s)) ∙ sym (result-roll (L.Check name c (g s)))
root-same f g (L.Result vars s) = result-roll (L.Result vars (f s)) ∙ sym (result-roll (L.Result vars (g s)))

abbrev AlwaysSuits : Plan → Type 0
AlwaysSuits p = (inside : Bool) (given known : List Var) → SameVars given known → Suits inside given known p p

inner_suits : {S : Type 0} (up : S → Plan) → ((s : S) → AlwaysSuits (up s)) → (y : L.Plan-F S) → InnerSuits S up up y
inner_suits up ih (L.Scan set vars) = tt
inner_suits up ih L.Empty = tt
inner_suits up ih L.Nested = tt
inner_suits up ih (L.Assign made s) = tt
inner_suits up ih (L.Select c s) = tt
inner_suits up ih (L.Project vars s) = tt
inner_suits up ih (L.Unnest v its s) = tt
inner_suits up ih (L.Subplan m s) = (ih m true, refl)
inner_suits up ih (L.Join c l r) = tt
inner_suits up ih (L.LeftJoin c l r) = tt
inner_suits up ih (L.Group keys m s) = (ih m true, refl)
inner_suits up ih (L.Distinct s) = tt
inner_suits up ih (L.Union made ls rs l r) = tt
inner_suits up ih (L.Aggregate made s) = tt
inner_suits up ih (L.Order keys s) = tt
inner_suits up ih (L.Limit k m s) = tt
inner_suits up ih (L.Check name c s) = tt
inner_suits up ih (L.Result vars s) = tt

layer_suits : {S : Type 0} (up : S → Plan) → ((s : S) → AlwaysSuits (up s)) → (y : L.Plan-F S) → AlwaysSuits (roll-Plan (map-Plan S Plan up y))
layer_suits {S} up ih y inside given known same = record {
  vars = (always (roll-Plan (map-Plan S Plan up y)) true (λ q. []) given known [] same).vars;
  root = refl;
  fits = step_fits up up inside given known y (inner_suits up ih y) (inputs_all (λ s. Suits inside given known (up s) (up s)) (λ s. ih s inside given known same) y);
}

pub suits : (p : Plan) → AlwaysSuits p
suits = ind-Plan AlwaysSuits (λ x y e. subst (λ (z : L.Plan-F Plan). AlwaysSuits (roll-Plan z)) e (layer_suits (λ s. s.0) (λ s. s.1) y))

-- ---- widths

shorter : (xs ys : List Var) → SameVars xs ys → AtMost64 ys → AtMost64 xs
shorter xs ys e h = omega (arith, length_permutation ys xs e)

pub record Thin (given : List Var) (q p : Plan) : Type 0 where
  pub vars : SameVars (live q given) (live p given)
  pub narrow : Narrow p given → Narrow q given

-- nested plans stay as they are
abbrev pub InnerSame : (S : Type 0) → (S → Plan) → (S → Plan) → L.Plan-F S → Type 0
InnerSame S f g (L.Subplan n s) = f n ≡ g n
InnerSame S f g (L.Group keys n s) = f n ≡ g n
InnerSame S f g _ = Unit {0}

nested_same : (n m : Plan) → n ≡ m → (given known : List Var) → SameVars given known → SameVars (live n given) (live m known)
nested_same n m e given known same = subst (λ (k : Plan). SameVars (live n given) (live k known)) e (always n true (λ q. []) given known [] same).vars

module _ {S : Type 0} (f g : S → Plan) (given : List Var) where
  step_narrow : (y : L.Plan-F S) → InnerSame S f g y → Inputs S (λ s. Thin given (f s) (g s)) y → NarrowLayer (map-Plan S Plan g y) given → NarrowLayer (map-Plan S Plan f y) given
  step_narrow (L.Scan set vars) n i h = h
  step_narrow L.Empty n i h = h
  step_narrow L.Nested n i h = h
  step_narrow (L.Assign made s) n i h = (i.narrow h.0, shorter _ _ (same-append _ (map (λ m. m.0) made) _ (map (λ m. m.0) made) i.vars (IsPermutation-refl _)) h.1)
  step_narrow (L.Select c s) n i h = i.narrow h
  step_narrow (L.Project vars s) n i h = (i.narrow h.0, h.1)
  step_narrow (L.Unnest v its s) n i h = (i.narrow h.0, shorter _ _ (same-append _ (v ∷ []) _ (v ∷ []) i.vars (IsPermutation-refl _)) h.1)
  step_narrow (L.Subplan m s) n i h = (i.narrow h.0, shorter _ _ (same-append _ _ _ _ i.vars (nested_same (f m) (g m) n _ _ i.vars)) h.1)
  step_narrow (L.Join c l r) n i h = (i.0.narrow h.0, i.1.narrow h.1, shorter _ _ (same-append _ _ _ _ i.0.vars i.1.vars) h.2)
  step_narrow (L.LeftJoin c l r) n i h = (i.0.narrow h.0, i.1.narrow h.1, shorter _ _ (same-append _ _ _ _ i.0.vars i.1.vars) h.2)
  step_narrow (L.Group keys m s) n i h = (i.narrow h.0, shorter _ _ (same-append (map (λ k. k.0) keys) _ (map (λ k. k.0) keys) _ (IsPermutation-refl _) (nested_same (f m) (g m) n _ _ i.vars)) h.1)
  step_narrow (L.Distinct s) n i h = i.narrow h
  step_narrow (L.Union made ls rs l r) n i h = (i.0.narrow h.0, i.1.narrow h.1, h.2)
  step_narrow (L.Aggregate made s) n i h = (i.narrow h.0, h.1)
  step_narrow (L.Order keys s) n i h = i.narrow h
  step_narrow (L.Limit k m s) n i h = i.narrow h
  step_narrow (L.Check name c s) n i h = i.narrow h
  step_narrow (L.Result vars s) n i h = (i.narrow h.0, h.1)

  pub step_thin : (y : L.Plan-F S) → InnerSame S f g y → Inputs S (λ s. Thin given (f s) (g s)) y → Narrow (roll-Plan (map-Plan S Plan g y)) given → Narrow (roll-Plan (map-Plan S Plan f y)) given
  step_thin y n i h = subst (λ (a : List Var → Type 0). a given) (sym (narrow-roll (map-Plan S Plan f y))) (step_narrow y n i (subst (λ (a : List Var → Type 0). a given) (narrow-roll (map-Plan S Plan g y)) h))
