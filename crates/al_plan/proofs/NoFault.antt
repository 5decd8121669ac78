-- If no name faults, reading the checks changes no allowed list.
use Rattle.std.proofs.Common.{◌≡◌, inl, inr, Bool, true, false, List, [], ◌∷◌, get_or, refl, sym, subst}
use Rattle.std.proofs.lemmas.List.Elements.{Contains-get_or}
use Rattle.al_plan.specs.declared.expr.Var.{Var}
use Rattle.al_plan.specs.declared.plan.Plan.{Plan, map-Plan, roll-Plan, ind-Plan}
use Rattle.al_plan.specs.declared.plan.Plan.TheOpen as L
use Rattle.al_plan.specs.Eval.{Bytes, Env, holds}
use Rattle.al_plan.specs.Allows.{Sets, Allows, Faulting, Faults, live, Group, rows_in, Gives}
use Rattle.al_plan.specs.Refines.{Fit, FitsEach}
use Rattle.al_plan.proofs.PlanLaws.{Layer, FaultLayer, faults-roll, EachLayer, each-roll}
use Rattle.al_plan.proofs.Orders.{unroll, enroll}
use Rattle.al_plan.proofs.Mono.{zip_weaker}
use Rattle.al_plan.proofs.Bools.{no, by_cases}

-- no name faults; of a plan within a nested plan nothing is asked
abbrev NoFault : Bool → Plan → Sets → List Var → List Env → Type 0
NoFault inside p sets given outer = inside ≡ false → (name : Bytes) → Faults p sets given outer name → ⊥

abbrev IsSound : Plan → Type 0
IsSound p = (inside : Bool) (there : List Var) → FitsEach p inside there → (sets : Sets) (given : List Var) (outer : List Env) → NoFault inside p sets given outer → (rows : List Env) → Allows p true sets given outer rows → Allows p false sets given outer rows

module _ {S : Type 0} (up : S → Plan) (ih : (s : S) → IsSound (up s)) (inside : Bool) (there : List Var) (sets : Sets) (given : List Var) (outer : List Env) where
  abbrev None : L.Plan-F S → Type 0
  None y = inside ≡ false → (name : Bytes) → FaultLayer (map-Plan S Plan up y) sets given outer name → ⊥

  nested : (n : S) (live_here there : List Var) (rows : List Env) (P : Env → Type 0) → FitsEach (up n) true there → Gives (Allows (up n)) true sets live_here rows P → Gives (Allows (up n)) false sets live_here rows P
  nested n live_here there rows P f g = (g.0, ih n true there f sets live_here rows (λ e. absurd (no e)) (g.0 ∷ []) g.1, g.2)

  step : (y : L.Plan-F S) → EachLayer (map-Plan S Plan up y) inside there → None y → (rows : List Env) → Layer (map-Plan S Plan up y) true sets given outer rows → Layer (map-Plan S Plan up y) false sets given outer rows
  step (L.Scan set vars) f nf rows o = o
  step L.Empty f nf rows o = o
  step L.Nested f nf rows o = o
  step (L.Assign made s) f nf rows o = (o.0, ih s inside there f.0.0 sets given outer nf o.0 o.1, o.2)
  step (L.Select c s) f nf rows o = (o.0, ih s inside there f.0.0 sets given outer nf o.0 o.1, o.2)
  step (L.Project vars s) f nf rows o = (o.0, ih s inside there f.0.0 sets given outer nf o.0 o.1, o.2)
  step (L.Unnest v its s) f nf rows o = (o.0, ih s inside there f.0.0 sets given outer nf o.0 o.1, o.2)
  step (L.Subplan m s) f nf rows o = (o.0, ih s inside there f.0.0 sets given outer nf o.0 o.1, zip_weaker _ _ (λ r row g. nested m (live (up s) given) (live (up s) there) (r ∷ []) _ f.2 g) o.0 rows o.2)
  step (L.Join c l r) f nf rows o = (o.0, ih l inside there f.0.0 sets given outer (λ e name g. nf e name (inl g)) o.0 o.1, (o.2.0, ih r inside there f.1.0 sets given outer (λ e name g. nf e name (inr g)) o.2.0 o.2.1, o.2.2))
  step (L.LeftJoin c l r) f nf rows o = (o.0, ih l inside there f.0.0 sets given outer (λ e name g. nf e name (inl g)) o.0 o.1, (o.2.0, ih r inside there f.1.0 sets given outer (λ e name g. nf e name (inr g)) o.2.0 o.2.1, o.2.2))
  step (L.Group keys m s) f nf rows o = (o.0, ih s inside there f.0.0 sets given outer nf o.0 o.1, (o.2.0, o.2.1, o.2.2, zip_weaker _ _ (λ (q : Group) row g. nested m (live (up s) given) (live (up s) there) (rows_in q) _ f.3 g) o.2.0 o.2.1 o.2.3, o.2.4))
  step (L.Distinct s) f nf rows o = (o.0, ih s inside there f.0 sets given outer nf o.0 o.1, o.2)
  step (L.Union made ls rs l r) f nf rows o = (o.0, ih l inside there f.0.0 sets given outer (λ e name g. nf e name (inl g)) o.0 o.1, (o.2.0, ih r inside there f.1.0 sets given outer (λ e name g. nf e name (inr g)) o.2.0 o.2.1, o.2.2))
  step (L.Aggregate made s) f nf rows o = (o.0, ih s inside there f.0.0 sets given outer nf o.0 o.1, o.2)
  step (L.Order keys s) f nf rows o = (o.0, ih s inside there f.0.0 sets given outer nf o.0 o.1, o.2)
  step (L.Limit k m s) f nf rows o = (o.0, ih s inside there f.0 sets given outer nf o.0 o.1, o.2)
  step (L.Check own c s) f nf rows o = (ih s inside there f.0.0 sets given outer (λ e name g. nf e name (inr g)) rows o.0, λ k d low. by_cases (holds c (get_or rows k d)) (λ h. h) (λ h. absurd (nf f.1 own (inl (refl, (rows, get_or rows k d, o.0, Contains-get_or rows k d low, h))))))
  step (L.Result vars s) f nf rows o = (o.0, ih s inside there f.0.0 sets given outer nf o.0 o.1, o.2)

layer_sound : {S : Type 0} (up : S → Plan) → ((s : S) → IsSound (up s)) → (y : L.Plan-F S) → IsSound (roll-Plan (map-Plan S Plan up y))
layer_sound {S} up ih y inside there fit sets given outer nf rows o =
    enroll (map-Plan S Plan up y) false sets given outer rows
    (step up ih inside there sets given outer y (subst (λ (a : Bool → List Var → Type 0). a inside there) (each-roll (map-Plan S Plan up y)) fit)
    (λ e name g. nf e name (subst (λ (a : Faulting). a sets given outer name) (sym (faults-roll (map-Plan S Plan up y))) g)) rows (unroll (map-Plan S Plan up y) true sets given outer rows o))

sound : (p : Plan) → IsSound p
sound = ind-Plan IsSound (λ x y e. subst (λ (z : L.Plan-F Plan). IsSound (roll-Plan z)) e (layer_sound (λ s. s.0) (λ s. s.1) y))

pub checks_pass : (p : Plan) → Fit p → (sets : Sets) (given : List Var) (outer : List Env) → ((name : Bytes) → Faults p sets given outer name → ⊥) → (rows : List Env) → Allows p true sets given outer rows → Allows p false sets given outer rows
checks_pass p fit sets given outer nf rows o = sound p false [] fit.each sets given outer (λ e. nf) rows o

-- ---- a list that is allowed with the checks read is allowed where they pass all rows on

abbrev PassesMore : Plan → Type 0
PassesMore p = (sets : Sets) (given : List Var) (outer rows : List Env) → Allows p false sets given outer rows → Allows p true sets given outer rows

module _ {S : Type 0} (up : S → Plan) (ih : (s : S) → PassesMore (up s)) (sets : Sets) (given : List Var) (outer : List Env) where
  nested_more : (n : S) (live_here : List Var) (rows : List Env) (P : Env → Type 0) → Gives (Allows (up n)) false sets live_here rows P → Gives (Allows (up n)) true sets live_here rows P
  nested_more n live_here rows P g = (g.0, ih n sets live_here rows (g.0 ∷ []) g.1, g.2)

  step_more : (y : L.Plan-F S) (rows : List Env) → Layer (map-Plan S Plan up y) false sets given outer rows → Layer (map-Plan S Plan up y) true sets given outer rows
  step_more (L.Scan set vars) rows o = o
  step_more L.Empty rows o = o
  step_more L.Nested rows o = o
  step_more (L.Assign made s) rows o = (o.0, ih s sets given outer o.0 o.1, o.2)
  step_more (L.Select c s) rows o = (o.0, ih s sets given outer o.0 o.1, o.2)
  step_more (L.Project vars s) rows o = (o.0, ih s sets given outer o.0 o.1, o.2)
  step_more (L.Unnest v its s) rows o = (o.0, ih s sets given outer o.0 o.1, o.2)
  step_more (L.Subplan m s) rows o = (o.0, ih s sets given outer o.0 o.1, zip_weaker _ _ (λ r row g. nested_more m (live (up s) given) (r ∷ []) _ g) o.0 rows o.2)
  step_more (L.Join c l r) rows o = (o.0, ih l sets given outer o.0 o.1, (o.2.0, ih r sets given outer o.2.0 o.2.1, o.2.2))
  step_more (L.LeftJoin c l r) rows o = (o.0, ih l sets given outer o.0 o.1, (o.2.0, ih r sets given outer o.2.0 o.2.1, o.2.2))
  step_more (L.Group keys m s) rows o = (o.0, ih s sets given outer o.0 o.1, (o.2.0, o.2.1, o.2.2, zip_weaker _ _ (λ (q : Group) row g. nested_more m (live (up s) given) (rows_in q) _ g) o.2.0 o.2.1 o.2.3, o.2.4))
  step_more (L.Distinct s) rows o = (o.0, ih s sets given outer o.0 o.1, o.2)
  step_more (L.Union made ls rs l r) rows o = (o.0, ih l sets given outer o.0 o.1, (o.2.0, ih r sets given outer o.2.0 o.2.1, o.2.2))
  step_more (L.Aggregate made s) rows o = (o.0, ih s sets given outer o.0 o.1, o.2)
  step_more (L.Order keys s) rows o = (o.0, ih s sets given outer o.0 o.1, o.2)
  step_more (L.Limit k m s) rows o = (o.0, ih s sets given outer o.0 o.1, o.2)
  step_more (L.Check name c s) rows o = (ih s sets given outer rows o.0, tt)
  step_more (L.Result vars s) rows o = (o.0, ih s sets given outer o.0 o.1, o.2)

layer_more : {S : Type 0} (up : S → Plan) → ((s : S) → PassesMore (up s)) → (y : L.Plan-F S) → PassesMore (roll-Plan (map-Plan S Plan up y))
layer_more {S} up ih y sets given outer rows o =
    enroll (map-Plan S Plan up y) true sets given outer rows (step_more up ih sets given outer y rows (unroll (map-Plan S Plan up y) false sets given outer rows o))

pub passes_more : (p : Plan) → PassesMore p
passes_more = ind-Plan PassesMore (λ x y e. subst (λ (z : L.Plan-F Plan). PassesMore (roll-Plan z)) e (layer_more (λ s. s.0) (λ s. s.1) y))
