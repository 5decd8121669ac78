-- Outside nested plans the outer rows say nothing.
use Rattle.std.proofs.Common.{◌≡◌, Bool, true, false, List, [], ◌∷◌, ◌++◌, map, refl, ap, sym, subst, ◌∙◌}
use Rattle.std.specs.List.{All, Contains, AllZip}
use Rattle.std.specs.List.Sorted.{IsPermutation}
use Rattle.al_plan.specs.declared.expr.Var.{Var}
use Rattle.al_plan.specs.declared.plan.Plan.{Plan, map-Plan, roll-Plan, ind-Plan}
use Rattle.al_plan.specs.declared.plan.Plan.TheOpen as L
use Rattle.al_plan.specs.Eval.{Bytes, Env}
use Rattle.al_plan.specs.Allows.{Sets, Allows, Faulting, Faults, live, live_step, ordered, Group, rows_in, key_of, new_of, with_new, beside, pairs, left_pairs, Gives}
use Rattle.al_plan.specs.Refines.{scans, Fit, Fills, Refines, FitsEach, result_of}
use Rattle.al_plan.specs.Laws.{IgnoresOuter}
use Rattle.al_plan.proofs.PlanLaws.{Layer, FaultLayer, faults-roll, EachLayer, each-roll}
use Rattle.al_plan.proofs.Orders.{unroll, enroll}
use Rattle.al_plan.proofs.Bools.{either}
use Rattle.al_plan.proofs.Mono.{Inputs, inputs_weaker, live_is}

-- the same live variables, lists and faults at other outer rows
pub record Idle (b : Bool) (sets : Sets) (given known : List Var) (outer inner : List Env) (p : Plan) : Type 0 where
  pub vars : live p given ≡ live p known
  pub less : (rows : List Env) → Allows p b sets given outer rows → Allows p b sets known inner rows
  pub passes : (rows : List Env) → Allows p true sets given outer rows → Allows p true sets known inner rows
  pub faults : (name : Bytes) → Faults p sets given outer name → Faults p sets known inner name

abbrev pub IsIdle : Plan → Type 0
IsIdle p = (there : List Var) → FitsEach p false there → (b : Bool) (sets : Sets) (given known : List Var) (outer inner : List Env) → Idle b sets given known outer inner p

no : false ≡ true → ⊥
no e = cc

-- each input of a layer that fits outside nested plans fits there
inputs_fit : {S : Type 0} (up : S → Plan) (there : List Var) (y : L.Plan-F S) → EachLayer (map-Plan S Plan up y) false there → Inputs S (λ s. FitsEach (up s) false there) y
inputs_fit up there (L.Scan set vars) h = tt
inputs_fit up there L.Empty h = tt
inputs_fit up there L.Nested h = tt
inputs_fit up there (L.Assign made s) h = h.0.0
inputs_fit up there (L.Select c s) h = h.0.0
inputs_fit up there (L.Project vars s) h = h.0.0
inputs_fit up there (L.Unnest v its s) h = h.0.0
inputs_fit up there (L.Subplan m s) h = h.0.0
inputs_fit up there (L.Join c l r) h = (h.0.0, h.1.0)
inputs_fit up there (L.LeftJoin c l r) h = (h.0.0, h.1.0)
inputs_fit up there (L.Group keys m s) h = h.0.0
inputs_fit up there (L.Distinct s) h = h.0
inputs_fit up there (L.Union made ls rs l r) h = (h.0.0, h.1.0)
inputs_fit up there (L.Aggregate made s) h = h.0.0
inputs_fit up there (L.Order keys s) h = h.0.0
inputs_fit up there (L.Limit k m s) h = h.0
inputs_fit up there (L.Check name c s) h = h.0.0
inputs_fit up there (L.Result vars s) h = h.0.0

module _ {S : Type 0} (up : S → Plan) (b : Bool) (sets : Sets) (given known : List Var) (outer inner : List Env) where
  abbrev Parts : L.Plan-F S → Type 0
  Parts y = Inputs S (λ s. Idle b sets given known outer inner (up s)) y

  step_vars : (y : L.Plan-F S) (there : List Var) → EachLayer (map-Plan S Plan up y) false there → Parts y → live_step (map-Plan Plan (List Var → List Var) live (map-Plan S Plan up y)) given ≡ live_step (map-Plan Plan (List Var → List Var) live (map-Plan S Plan up y)) known
  step_vars (L.Scan set vars) there h i = refl
  step_vars L.Empty there h i = refl
  step_vars L.Nested there h i = absurd (no h)
  step_vars (L.Assign made s) there h i = ap (λ vs. vs ++ map (λ m. m.0) made) i.vars
  step_vars (L.Select c s) there h i = i.vars
  step_vars (L.Project vars s) there h i = refl
  step_vars (L.Unnest v its s) there h i = ap (λ vs. vs ++ v ∷ []) i.vars
  step_vars (L.Subplan m s) there h i = ap (λ vs. vs ++ live (up m) vs) i.vars
  step_vars (L.Join c l r) there h i = λ j. i.0.vars j ++ i.1.vars j
  step_vars (L.LeftJoin c l r) there h i = λ j. i.0.vars j ++ i.1.vars j
  step_vars (L.Group keys m s) there h i = ap (λ vs. map (λ k. k.0) keys ++ live (up m) vs) i.vars
  step_vars (L.Distinct s) there h i = i.vars
  step_vars (L.Union made ls rs l r) there h i = refl
  step_vars (L.Aggregate made s) there h i = refl
  step_vars (L.Order keys s) there h i = i.vars
  step_vars (L.Limit k m s) there h i = i.vars
  step_vars (L.Check name c s) there h i = i.vars
  step_vars (L.Result vars s) there h i = refl

  step_less : (y : L.Plan-F S) (there : List Var) → EachLayer (map-Plan S Plan up y) false there → Parts y → (rows : List Env) → Layer (map-Plan S Plan up y) b sets given outer rows → Layer (map-Plan S Plan up y) b sets known inner rows
  step_less (L.Scan set vars) there h i rows o = o
  step_less L.Empty there h i rows o = o
  step_less L.Nested there h i rows o = absurd (no h)
  step_less (L.Assign made s) there h i rows o = (o.0, i.less o.0 o.1, o.2)
  step_less (L.Select c s) there h i rows o = (o.0, i.less o.0 o.1, o.2)
  step_less (L.Project vars s) there h i rows o = (o.0, i.less o.0 o.1, o.2)
  step_less (L.Unnest v its s) there h i rows o = (o.0, i.less o.0 o.1, o.2)
  step_less (L.Subplan m s) there h i rows o = (o.0, i.less o.0 o.1, subst (λ (vs : List Var). AllZip (λ r row. Gives (Allows (up m)) b sets vs (r ∷ []) (λ one. row ≡ beside (live (up m) vs) one r)) o.0 rows) i.vars o.2)
  step_less (L.Join c l r) there h i rows o = (o.0, i.0.less o.0 o.1, (o.2.0, i.1.less o.2.0 o.2.1, subst (λ (vs : List Var). IsPermutation (pairs vs c o.0 o.2.0) rows) i.0.vars o.2.2))
  step_less (L.LeftJoin c l r) there h i rows o = (o.0, i.0.less o.0 o.1, (o.2.0, i.1.less o.2.0 o.2.1, subst (λ (vs : List Var). IsPermutation (left_pairs vs c o.0 o.2.0) rows) i.0.vars o.2.2))
  step_less (L.Group keys m s) there h i rows o = (o.0, i.less o.0 o.1, (o.2.0, o.2.1, o.2.2, subst (λ (vs : List Var). AllZip (λ (g : Group) row. Gives (Allows (up m)) b sets vs (rows_in g) (λ one. row ≡ with_new (new_of keys) (key_of keys g.0) one)) o.2.0 o.2.1) i.vars o.2.3, o.2.4))
  step_less (L.Distinct s) there h i rows o = (o.0, i.less o.0 o.1, o.2)
  step_less (L.Union made ls rs l r) there h i rows o = (o.0, i.0.less o.0 o.1, (o.2.0, i.1.less o.2.0 o.2.1, o.2.2))
  step_less (L.Aggregate made s) there h i rows o = (o.0, i.less o.0 o.1, o.2)
  step_less (L.Order keys s) there h i rows o = (o.0, i.less o.0 o.1, o.2)
  step_less (L.Limit k m s) there h i rows o = (o.0, i.less o.0 o.1, o.2)
  step_less (L.Check name c s) there h i rows o = (i.less rows o.0, o.1)
  step_less (L.Result vars s) there h i rows o = (o.0, i.less o.0 o.1, o.2)

  step_passes : (y : L.Plan-F S) (there : List Var) → EachLayer (map-Plan S Plan up y) false there → Parts y → (rows : List Env) → Layer (map-Plan S Plan up y) true sets given outer rows → Layer (map-Plan S Plan up y) true sets known inner rows
  step_passes (L.Scan set vars) there h i rows o = o
  step_passes L.Empty there h i rows o = o
  step_passes L.Nested there h i rows o = absurd (no h)
  step_passes (L.Assign made s) there h i rows o = (o.0, i.passes o.0 o.1, o.2)
  step_passes (L.Select c s) there h i rows o = (o.0, i.passes o.0 o.1, o.2)
  step_passes (L.Project vars s) there h i rows o = (o.0, i.passes o.0 o.1, o.2)
  step_passes (L.Unnest v its s) there h i rows o = (o.0, i.passes o.0 o.1, o.2)
  step_passes (L.Subplan m s) there h i rows o = (o.0, i.passes o.0 o.1, subst (λ (vs : List Var). AllZip (λ r row. Gives (Allows (up m)) true sets vs (r ∷ []) (λ one. row ≡ beside (live (up m) vs) one r)) o.0 rows) i.vars o.2)
  step_passes (L.Join c l r) there h i rows o = (o.0, i.0.passes o.0 o.1, (o.2.0, i.1.passes o.2.0 o.2.1, subst (λ (vs : List Var). IsPermutation (pairs vs c o.0 o.2.0) rows) i.0.vars o.2.2))
  step_passes (L.LeftJoin c l r) there h i rows o = (o.0, i.0.passes o.0 o.1, (o.2.0, i.1.passes o.2.0 o.2.1, subst (λ (vs : List Var). IsPermutation (left_pairs vs c o.0 o.2.0) rows) i.0.vars o.2.2))
  step_passes (L.Group keys m s) there h i rows o = (o.0, i.passes o.0 o.1, (o.2.0, o.2.1, o.2.2, subst (λ (vs : List Var). AllZip (λ (g : Group) row. Gives (Allows (up m)) true sets vs (rows_in g) (λ one. row ≡ with_new (new_of keys) (key_of keys g.0) one)) o.2.0 o.2.1) i.vars o.2.3, o.2.4))
  step_passes (L.Distinct s) there h i rows o = (o.0, i.passes o.0 o.1, o.2)
  step_passes (L.Union made ls rs l r) there h i rows o = (o.0, i.0.passes o.0 o.1, (o.2.0, i.1.passes o.2.0 o.2.1, o.2.2))
  step_passes (L.Aggregate made s) there h i rows o = (o.0, i.passes o.0 o.1, o.2)
  step_passes (L.Order keys s) there h i rows o = (o.0, i.passes o.0 o.1, o.2)
  step_passes (L.Limit k m s) there h i rows o = (o.0, i.passes o.0 o.1, o.2)
  step_passes (L.Check name c s) there h i rows o = (i.passes rows o.0, o.1)
  step_passes (L.Result vars s) there h i rows o = (o.0, i.passes o.0 o.1, o.2)

  step_faults : (y : L.Plan-F S) → Parts y → (name : Bytes) → FaultLayer (map-Plan S Plan up y) sets given outer name → FaultLayer (map-Plan S Plan up y) sets known inner name
  step_faults (L.Scan set vars) i name o = o
  step_faults L.Empty i name o = o
  step_faults L.Nested i name o = o
  step_faults (L.Assign made s) i name o = i.faults name o
  step_faults (L.Select c s) i name o = i.faults name o
  step_faults (L.Project vars s) i name o = i.faults name o
  step_faults (L.Unnest v its s) i name o = i.faults name o
  step_faults (L.Subplan m s) i name o = i.faults name o
  step_faults (L.Join c l r) i name o = either (i.0.faults name) (i.1.faults name) o
  step_faults (L.LeftJoin c l r) i name o = either (i.0.faults name) (i.1.faults name) o
  step_faults (L.Group keys m s) i name o = i.faults name o
  step_faults (L.Distinct s) i name o = i.faults name o
  step_faults (L.Union made ls rs l r) i name o = either (i.0.faults name) (i.1.faults name) o
  step_faults (L.Aggregate made s) i name o = i.faults name o
  step_faults (L.Order keys s) i name o = i.faults name o
  step_faults (L.Limit k m s) i name o = i.faults name o
  step_faults (L.Check own c s) i name o = either (λ o. (o.0, (o.1.0, o.1.1, i.passes o.1.0 o.1.2, o.1.3, o.1.4))) (i.faults name) o
  step_faults (L.Result vars s) i name o = i.faults name o

layer_idle : {S : Type 0} (up : S → Plan) → ((s : S) → IsIdle (up s)) → (y : L.Plan-F S) → IsIdle (roll-Plan (map-Plan S Plan up y))
layer_idle {S} up ih y there fit b sets given known outer inner =
    let x : L.Plan-F Plan = map-Plan S Plan up y in
    let each : EachLayer (map-Plan S Plan up y) false there = subst (λ (a : Bool → List Var → Type 0). a false there) (each-roll (map-Plan S Plan up y)) fit in
    let parts = inputs_weaker (λ s. FitsEach (up s) false there) (λ s. Idle b sets given known outer inner (up s)) (λ s k. ih s there k b sets given known outer inner) y (inputs_fit up there y each) in
    record {
      vars = live_is (map-Plan S Plan up y) given ∙ step_vars up b sets given known outer inner y there each parts ∙ sym (live_is (map-Plan S Plan up y) known);
      less = λ rows o. enroll (map-Plan S Plan up y) b sets known inner rows (step_less up b sets given known outer inner y there each parts rows (unroll (map-Plan S Plan up y) b sets given outer rows o));
      passes = λ rows o. enroll (map-Plan S Plan up y) true sets known inner rows (step_passes up b sets given known outer inner y there each parts rows (unroll (map-Plan S Plan up y) true sets given outer rows o));
      faults = λ name o. subst (λ (a : Faulting). a sets known inner name) (sym (faults-roll (map-Plan S Plan up y))) (step_faults up b sets given known outer inner y parts name (subst (λ (a : Faulting). a sets given outer name) (faults-roll (map-Plan S Plan up y)) o));
    }

pub idle : (p : Plan) → IsIdle p
idle = ind-Plan IsIdle (λ x y e. subst (λ (z : L.Plan-F Plan). IsIdle (roll-Plan z)) e (layer_idle (λ s. s.0) (λ s. s.1) y))

pub outer_idle : (p : Plan) → Fit p → IgnoresOuter p
outer_idle p fit = record {
  vars = λ given known. (idle p [] fit.each true (λ q. []) given known [] []).vars;
  allowed = λ b sets given known outer inner rows. (idle p [] fit.each b sets given known outer inner).less rows;
  faults = λ sets given known outer inner name. (idle p [] fit.each true sets given known outer inner).faults name;
}

-- Refines, where no outer rows are given
pub record RefinesHere (q p : Plan) : Type 0 where
  pub fit : Fit q
  pub scanned : All (Contains (scans p)) (scans q)
  pub root : result_of q ≡ result_of p
  pub vars : IsPermutation (live p []) (live q [])
  pub order : ordered p ≡ true → ordered q ≡ true
  pub allowed : (passing : Bool) (sets : Sets) (rows : List Env) → Fills (scans p) sets → Allows q passing sets [] [] rows → Allows p passing sets [] [] rows
  pub faults : (sets : Sets) (name : Bytes) → Fills (scans p) sets → Faults q sets [] [] name → Faults p sets [] [] name

-- a plan outside nested plans has nothing to do with outer rows
pub refines_here : (q p : Plan) → Fit p → RefinesHere q p → Refines q p
refines_here q p fit h = record {
  fit = h.fit;
  scanned = h.scanned;
  root = h.root;
  vars = λ given. subst (λ (vs : List Var). IsPermutation vs (live q given)) (sym (idle p [] fit.each true (λ q. []) given [] [] []).vars) (subst (λ (vs : List Var). IsPermutation (live p []) vs) (sym (idle q [] h.fit.each true (λ q. []) given [] [] []).vars) h.vars);
  order = h.order;
  allowed = λ b sets given outer rows fills w o. (idle p [] fit.each b sets [] given [] outer).less rows (h.allowed b sets rows fills ((idle q [] h.fit.each b sets given [] outer []).less rows o));
  faults = λ sets given outer name fills w o. (idle p [] fit.each true sets [] given [] outer).faults name (h.faults sets name fills ((idle q [] h.fit.each true sets given [] outer []).faults name o));
}
