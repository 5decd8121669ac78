-- What each definition over plans says at each operator.
use Rattle.std.proofs.Common.{◌≡◌, ℕ, Bool, List, [], ◌∷◌, ◌++◌, map, refl, ap, sym, subst, ◌∙◌, Option, Some, None}
use Rattle.al_plan.specs.declared.expr.Var.{Var}
use Rattle.al_plan.specs.declared.expr.Expr.{Expr}
use Rattle.al_plan.specs.declared.plan.OrderKey.{OrderKey}
use Rattle.al_plan.specs.declared.plan.AggCall.{AggCall}
use Rattle.al_plan.specs.declared.plan.Generator.{Generator}
use Rattle.al_plan.specs.declared.plan.Plan.{Plan, map-Plan, roll-Plan, fold-roll-Plan, rec-roll-Plan}
use Rattle.al_plan.specs.declared.plan.Plan.TheVariants as P
use Rattle.al_plan.specs.declared.plan.Plan.TheOpen as L
use Rattle.al_plan.specs.Eval.{Bytes, Env}
use Rattle.al_plan.specs.Allows.{Sets, Allowing, Faulting, live, live_step, ordered, ordered_step, Allows, allows_step, Faults, faults_step}
use Rattle.al_plan.specs.Refines.{Scan, scans, scans_step, makes, makes_step, result_of, result_step, is_aggregate, aggregate_step, Fitting, FitsEach, each_step, Narrow, narrow_step}

natural : (X : Type 0) (up : X → Plan) (fn : Plan → Allowing) (x : L.Plan-F X) → allows_step X up (λ p. fn (up p)) x ≡ allows_step Plan (λ p. p) fn (map-Plan X Plan up x)
natural X up fn (L.Scan set vars) = refl
natural X up fn L.Empty = refl
natural X up fn L.Nested = refl
natural X up fn (L.Assign made p) = refl
natural X up fn (L.Select c p) = refl
natural X up fn (L.Project vars p) = refl
natural X up fn (L.Unnest v g p) = refl
natural X up fn (L.Subplan n p) = refl
natural X up fn (L.Join c l r) = refl
natural X up fn (L.LeftJoin c l r) = refl
natural X up fn (L.Group keys n p) = refl
natural X up fn (L.Distinct p) = refl
natural X up fn (L.Union made ls rs l r) = refl
natural X up fn (L.Aggregate made p) = refl
natural X up fn (L.Order keys p) = refl
natural X up fn (L.Limit n k p) = refl
natural X up fn (L.Check name c p) = refl
natural X up fn (L.Result vars p) = refl

natural_faults : (X : Type 0) (up : X → Plan) (fn : Plan → Faulting) (x : L.Plan-F X) → faults_step X up (λ p. fn (up p)) x ≡ faults_step Plan (λ p. p) fn (map-Plan X Plan up x)
natural_faults X up fn (L.Scan set vars) = refl
natural_faults X up fn L.Empty = refl
natural_faults X up fn L.Nested = refl
natural_faults X up fn (L.Assign made p) = refl
natural_faults X up fn (L.Select c p) = refl
natural_faults X up fn (L.Project vars p) = refl
natural_faults X up fn (L.Unnest v g p) = refl
natural_faults X up fn (L.Subplan n p) = refl
natural_faults X up fn (L.Join c l r) = refl
natural_faults X up fn (L.LeftJoin c l r) = refl
natural_faults X up fn (L.Group keys n p) = refl
natural_faults X up fn (L.Distinct p) = refl
natural_faults X up fn (L.Union made ls rs l r) = refl
natural_faults X up fn (L.Aggregate made p) = refl
natural_faults X up fn (L.Order keys p) = refl
natural_faults X up fn (L.Limit n k p) = refl
natural_faults X up fn (L.Check name c p) = refl
natural_faults X up fn (L.Result vars p) = refl

natural_each : (X : Type 0) (up : X → Plan) (fn : Plan → Fitting) (x : L.Plan-F X) → each_step X up (λ p. fn (up p)) x ≡ each_step Plan (λ p. p) fn (map-Plan X Plan up x)
natural_each X up fn (L.Scan set vars) = refl
natural_each X up fn L.Empty = refl
natural_each X up fn L.Nested = refl
natural_each X up fn (L.Assign made p) = refl
natural_each X up fn (L.Select c p) = refl
natural_each X up fn (L.Project vars p) = refl
natural_each X up fn (L.Unnest v g p) = refl
natural_each X up fn (L.Subplan n p) = refl
natural_each X up fn (L.Join c l r) = refl
natural_each X up fn (L.LeftJoin c l r) = refl
natural_each X up fn (L.Group keys n p) = refl
natural_each X up fn (L.Distinct p) = refl
natural_each X up fn (L.Union made ls rs l r) = refl
natural_each X up fn (L.Aggregate made p) = refl
natural_each X up fn (L.Order keys p) = refl
natural_each X up fn (L.Limit n k p) = refl
natural_each X up fn (L.Check name c p) = refl
natural_each X up fn (L.Result vars p) = refl

natural_narrow : (X : Type 0) (up : X → Plan) (fn : Plan → List Var → Type 0) (x : L.Plan-F X) → narrow_step X up (λ p. fn (up p)) x ≡ narrow_step Plan (λ p. p) fn (map-Plan X Plan up x)
natural_narrow X up fn (L.Scan set vars) = refl
natural_narrow X up fn L.Empty = refl
natural_narrow X up fn L.Nested = refl
natural_narrow X up fn (L.Assign made p) = refl
natural_narrow X up fn (L.Select c p) = refl
natural_narrow X up fn (L.Project vars p) = refl
natural_narrow X up fn (L.Unnest v g p) = refl
natural_narrow X up fn (L.Subplan n p) = refl
natural_narrow X up fn (L.Join c l r) = refl
natural_narrow X up fn (L.LeftJoin c l r) = refl
natural_narrow X up fn (L.Group keys n p) = refl
natural_narrow X up fn (L.Distinct p) = refl
natural_narrow X up fn (L.Union made ls rs l r) = refl
natural_narrow X up fn (L.Aggregate made p) = refl
natural_narrow X up fn (L.Order keys p) = refl
natural_narrow X up fn (L.Limit n k p) = refl
natural_narrow X up fn (L.Check name c p) = refl
natural_narrow X up fn (L.Result vars p) = refl

-- what a plan allows is what its layer says of its inputs
abbrev pub Layer : L.Plan-F Plan → Allowing
Layer x = allows_step Plan (λ q. q) Allows x

pub allows-roll : (x : L.Plan-F Plan) → Allows (roll-Plan x) ≡ Layer x
unfolding Allows
allows-roll x = rec-roll-Plan Allowing allows_step natural x

rolled : (x : L.Plan-F Plan) (p : Plan) → roll-Plan x ≡ p → Allows p ≡ Layer x
rolled x p e = ap Allows (sym e) ∙ allows-roll x

into : (x : L.Plan-F Plan) (p : Plan) → roll-Plan x ≡ p → (b : Bool) (sets : Sets) (given : List Var) (outer rows : List Env) → Layer x b sets given outer rows → Allows p b sets given outer rows
into x p e b sets given outer rows h = subst (λ (a : Allowing). a b sets given outer rows) (sym (rolled x p e)) h

out : (x : L.Plan-F Plan) (p : Plan) → roll-Plan x ≡ p → (b : Bool) (sets : Sets) (given : List Var) (outer rows : List Env) → Allows p b sets given outer rows → Layer x b sets given outer rows
out x p e b sets given outer rows h = subst (λ (a : Allowing). a b sets given outer rows) (rolled x p e) h

abbrev pub FaultLayer : L.Plan-F Plan → Faulting
FaultLayer x = faults_step Plan (λ q. q) Faults x

pub faults-roll : (x : L.Plan-F Plan) → Faults (roll-Plan x) ≡ FaultLayer x
unfolding Faults
faults-roll x = rec-roll-Plan Faulting faults_step natural_faults x

rolled_faults : (x : L.Plan-F Plan) (p : Plan) → roll-Plan x ≡ p → Faults p ≡ FaultLayer x
rolled_faults x p e = ap Faults (sym e) ∙ faults-roll x

abbrev pub EachLayer : L.Plan-F Plan → Fitting
EachLayer x = each_step Plan (λ q. q) FitsEach x

pub each-roll : (x : L.Plan-F Plan) → FitsEach (roll-Plan x) ≡ EachLayer x
unfolding FitsEach
each-roll x = rec-roll-Plan Fitting each_step natural_each x

rolled_each : (x : L.Plan-F Plan) (p : Plan) → roll-Plan x ≡ p → FitsEach p ≡ EachLayer x
rolled_each x p e = ap FitsEach (sym e) ∙ each-roll x

abbrev pub NarrowLayer : L.Plan-F Plan → List Var → Type 0
NarrowLayer x = narrow_step Plan (λ q. q) Narrow x

pub narrow-roll : (x : L.Plan-F Plan) → Narrow (roll-Plan x) ≡ NarrowLayer x
unfolding Narrow
narrow-roll x = rec-roll-Plan (List Var → Type 0) narrow_step natural_narrow x

rolled_narrow : (x : L.Plan-F Plan) (p : Plan) → roll-Plan x ≡ p → Narrow p ≡ NarrowLayer x
rolled_narrow x p e = ap Narrow (sym e) ∙ narrow-roll x

pub live-roll : (x : L.Plan-F Plan) → live (roll-Plan x) ≡ live_step (map-Plan Plan (List Var → List Var) live x)
unfolding live
live-roll x = fold-roll-Plan (List Var → List Var) live_step x

pub ordered-roll : (x : L.Plan-F Plan) → ordered (roll-Plan x) ≡ ordered_step (map-Plan Plan Bool ordered x)
unfolding ordered
ordered-roll x = fold-roll-Plan Bool ordered_step x

pub scans-roll : (x : L.Plan-F Plan) → scans (roll-Plan x) ≡ scans_step (map-Plan Plan (List Scan) scans x)
unfolding scans
scans-roll x = fold-roll-Plan (List Scan) scans_step x

pub makes-roll : (x : L.Plan-F Plan) → makes (roll-Plan x) ≡ makes_step (map-Plan Plan (List Var) makes x)
unfolding makes
makes-roll x = fold-roll-Plan (List Var) makes_step x

pub result-roll : (x : L.Plan-F Plan) → result_of (roll-Plan x) ≡ result_step (map-Plan Plan (Option (List Var)) result_of x)
unfolding result_of
result-roll x = fold-roll-Plan (Option (List Var)) result_step x

pub aggregate-roll : (x : L.Plan-F Plan) → is_aggregate (roll-Plan x) ≡ aggregate_step (map-Plan Plan Bool is_aggregate x)
unfolding is_aggregate
aggregate-roll x = fold-roll-Plan Bool aggregate_step x

pub allows_Scan : (set : Bytes) (vars : List Var) (b : Bool) (sets : Sets) (given : List Var) (outer rows : List Env) → Layer (L.Scan set vars) b sets given outer rows → Allows (P.Scan set vars) b sets given outer rows
allows_Scan set vars b sets given outer rows h = into (L.Scan set vars) _ (P.rolls-Scan set vars) b sets given outer rows h

pub from_Scan : (set : Bytes) (vars : List Var) (b : Bool) (sets : Sets) (given : List Var) (outer rows : List Env) → Allows (P.Scan set vars) b sets given outer rows → Layer (L.Scan set vars) b sets given outer rows
from_Scan set vars b sets given outer rows h = out (L.Scan set vars) _ (P.rolls-Scan set vars) b sets given outer rows h

pub faults-Scan : (set : Bytes) (vars : List Var) (sets : Sets) (given : List Var) (outer : List Env) (what : Bytes) → Faults (P.Scan set vars) sets given outer what ≡ FaultLayer (L.Scan set vars) sets given outer what
faults-Scan set vars sets given outer what = ap (λ (f : Faulting). f sets given outer what) (rolled_faults (L.Scan set vars) _ (P.rolls-Scan set vars))

pub live-Scan : (set : Bytes) (vars : List Var) (given : List Var) → live (P.Scan set vars) given ≡ vars
live-Scan set vars given = ap (λ (f : List Var → List Var). f given) (ap live (sym (P.rolls-Scan set vars)) ∙ live-roll (L.Scan set vars))

pub ordered-Scan : (set : Bytes) (vars : List Var) → ordered (P.Scan set vars) ≡ ordered_step (map-Plan Plan (Bool) ordered (L.Scan set vars))
ordered-Scan set vars = ap ordered (sym (P.rolls-Scan set vars)) ∙ ordered-roll (L.Scan set vars)

pub scans-Scan : (set : Bytes) (vars : List Var) → scans (P.Scan set vars) ≡ scans_step (map-Plan Plan (List Scan) scans (L.Scan set vars))
scans-Scan set vars = ap scans (sym (P.rolls-Scan set vars)) ∙ scans-roll (L.Scan set vars)

pub allows_Empty : (b : Bool) (sets : Sets) (given : List Var) (outer rows : List Env) → Layer L.Empty b sets given outer rows → Allows P.Empty b sets given outer rows
allows_Empty b sets given outer rows h = into L.Empty _ (P.rolls-Empty) b sets given outer rows h

pub from_Empty : (b : Bool) (sets : Sets) (given : List Var) (outer rows : List Env) → Allows P.Empty b sets given outer rows → Layer L.Empty b sets given outer rows
from_Empty b sets given outer rows h = out L.Empty _ (P.rolls-Empty) b sets given outer rows h

pub each-Empty : (inside : Bool) (given : List Var) → FitsEach P.Empty inside given ≡ EachLayer L.Empty inside given
each-Empty inside given = ap (λ (f : Fitting). f inside given) (rolled_each L.Empty _ (P.rolls-Empty))

pub narrow-Empty : (given : List Var) → Narrow P.Empty given ≡ NarrowLayer L.Empty given
narrow-Empty given = ap (λ (f : List Var → Type 0). f given) (rolled_narrow L.Empty _ (P.rolls-Empty))

pub live-Empty : (given : List Var) → live P.Empty given ≡ []
live-Empty given = ap (λ (f : List Var → List Var). f given) (ap live (sym (P.rolls-Empty)) ∙ live-roll L.Empty)

pub ordered-Empty : ordered P.Empty ≡ ordered_step (map-Plan Plan (Bool) ordered L.Empty)
ordered-Empty = ap ordered (sym (P.rolls-Empty)) ∙ ordered-roll L.Empty

pub makes-Empty : makes P.Empty ≡ makes_step (map-Plan Plan (List Var) makes L.Empty)
makes-Empty = ap makes (sym (P.rolls-Empty)) ∙ makes-roll L.Empty

pub result-Empty : result_of P.Empty ≡ None
result-Empty = ap result_of (sym (P.rolls-Empty)) ∙ result-roll L.Empty

pub allows_Nested : (b : Bool) (sets : Sets) (given : List Var) (outer rows : List Env) → Layer L.Nested b sets given outer rows → Allows P.Nested b sets given outer rows
allows_Nested b sets given outer rows h = into L.Nested _ (P.rolls-Nested) b sets given outer rows h

pub from_Nested : (b : Bool) (sets : Sets) (given : List Var) (outer rows : List Env) → Allows P.Nested b sets given outer rows → Layer L.Nested b sets given outer rows
from_Nested b sets given outer rows h = out L.Nested _ (P.rolls-Nested) b sets given outer rows h

pub each-Nested : (inside : Bool) (given : List Var) → FitsEach P.Nested inside given ≡ EachLayer L.Nested inside given
each-Nested inside given = ap (λ (f : Fitting). f inside given) (rolled_each L.Nested _ (P.rolls-Nested))

pub live-Nested : (given : List Var) → live P.Nested given ≡ given
live-Nested given = ap (λ (f : List Var → List Var). f given) (ap live (sym (P.rolls-Nested)) ∙ live-roll L.Nested)

pub ordered-Nested : ordered P.Nested ≡ ordered_step (map-Plan Plan (Bool) ordered L.Nested)
ordered-Nested = ap ordered (sym (P.rolls-Nested)) ∙ ordered-roll L.Nested

pub makes-Nested : makes P.Nested ≡ makes_step (map-Plan Plan (List Var) makes L.Nested)
makes-Nested = ap makes (sym (P.rolls-Nested)) ∙ makes-roll L.Nested

pub result-Nested : result_of P.Nested ≡ None
result-Nested = ap result_of (sym (P.rolls-Nested)) ∙ result-roll L.Nested

pub allows_Assign : (made : List (Var × Expr)) (p : Plan) (b : Bool) (sets : Sets) (given : List Var) (outer rows : List Env) → Layer (L.Assign made p) b sets given outer rows → Allows (P.Assign made p) b sets given outer rows
allows_Assign made p b sets given outer rows h = into (L.Assign made p) _ (P.rolls-Assign made p) b sets given outer rows h

pub from_Assign : (made : List (Var × Expr)) (p : Plan) (b : Bool) (sets : Sets) (given : List Var) (outer rows : List Env) → Allows (P.Assign made p) b sets given outer rows → Layer (L.Assign made p) b sets given outer rows
from_Assign made p b sets given outer rows h = out (L.Assign made p) _ (P.rolls-Assign made p) b sets given outer rows h

pub faults-Assign : (made : List (Var × Expr)) (p : Plan) (sets : Sets) (given : List Var) (outer : List Env) (what : Bytes) → Faults (P.Assign made p) sets given outer what ≡ FaultLayer (L.Assign made p) sets given outer what
faults-Assign made p sets given outer what = ap (λ (f : Faulting). f sets given outer what) (rolled_faults (L.Assign made p) _ (P.rolls-Assign made p))

pub live-Assign : (made : List (Var × Expr)) (p : Plan) (given : List Var) → live (P.Assign made p) given ≡ live p given ++ map (λ m. m.0) made
live-Assign made p given = ap (λ (f : List Var → List Var). f given) (ap live (sym (P.rolls-Assign made p)) ∙ live-roll (L.Assign made p))

pub ordered-Assign : (made : List (Var × Expr)) (p : Plan) → ordered (P.Assign made p) ≡ ordered_step (map-Plan Plan (Bool) ordered (L.Assign made p))
ordered-Assign made p = ap ordered (sym (P.rolls-Assign made p)) ∙ ordered-roll (L.Assign made p)

pub scans-Assign : (made : List (Var × Expr)) (p : Plan) → scans (P.Assign made p) ≡ scans_step (map-Plan Plan (List Scan) scans (L.Assign made p))
scans-Assign made p = ap scans (sym (P.rolls-Assign made p)) ∙ scans-roll (L.Assign made p)

pub makes-Assign : (made : List (Var × Expr)) (p : Plan) → makes (P.Assign made p) ≡ makes_step (map-Plan Plan (List Var) makes (L.Assign made p))
makes-Assign made p = ap makes (sym (P.rolls-Assign made p)) ∙ makes-roll (L.Assign made p)

pub result-Assign : (made : List (Var × Expr)) (p : Plan) → result_of (P.Assign made p) ≡ None
result-Assign made p = ap result_of (sym (P.rolls-Assign made p)) ∙ result-roll (L.Assign made p)

pub allows_Select : (c : Expr) (p : Plan) (b : Bool) (sets : Sets) (given : List Var) (outer rows : List Env) → Layer (L.Select c p) b sets given outer rows → Allows (P.Select c p) b sets given outer rows
allows_Select c p b sets given outer rows h = into (L.Select c p) _ (P.rolls-Select c p) b sets given outer rows h

pub from_Select : (c : Expr) (p : Plan) (b : Bool) (sets : Sets) (given : List Var) (outer rows : List Env) → Allows (P.Select c p) b sets given outer rows → Layer (L.Select c p) b sets given outer rows
from_Select c p b sets given outer rows h = out (L.Select c p) _ (P.rolls-Select c p) b sets given outer rows h

pub faults-Select : (c : Expr) (p : Plan) (sets : Sets) (given : List Var) (outer : List Env) (what : Bytes) → Faults (P.Select c p) sets given outer what ≡ FaultLayer (L.Select c p) sets given outer what
faults-Select c p sets given outer what = ap (λ (f : Faulting). f sets given outer what) (rolled_faults (L.Select c p) _ (P.rolls-Select c p))

pub live-Select : (c : Expr) (p : Plan) (given : List Var) → live (P.Select c p) given ≡ live p given
live-Select c p given = ap (λ (f : List Var → List Var). f given) (ap live (sym (P.rolls-Select c p)) ∙ live-roll (L.Select c p))

pub ordered-Select : (c : Expr) (p : Plan) → ordered (P.Select c p) ≡ ordered_step (map-Plan Plan (Bool) ordered (L.Select c p))
ordered-Select c p = ap ordered (sym (P.rolls-Select c p)) ∙ ordered-roll (L.Select c p)

pub scans-Select : (c : Expr) (p : Plan) → scans (P.Select c p) ≡ scans_step (map-Plan Plan (List Scan) scans (L.Select c p))
scans-Select c p = ap scans (sym (P.rolls-Select c p)) ∙ scans-roll (L.Select c p)

pub makes-Select : (c : Expr) (p : Plan) → makes (P.Select c p) ≡ makes_step (map-Plan Plan (List Var) makes (L.Select c p))
makes-Select c p = ap makes (sym (P.rolls-Select c p)) ∙ makes-roll (L.Select c p)

pub result-Select : (c : Expr) (p : Plan) → result_of (P.Select c p) ≡ None
result-Select c p = ap result_of (sym (P.rolls-Select c p)) ∙ result-roll (L.Select c p)

pub allows_Project : (vars : List Var) (p : Plan) (b : Bool) (sets : Sets) (given : List Var) (outer rows : List Env) → Layer (L.Project vars p) b sets given outer rows → Allows (P.Project vars p) b sets given outer rows
allows_Project vars p b sets given outer rows h = into (L.Project vars p) _ (P.rolls-Project vars p) b sets given outer rows h

pub from_Project : (vars : List Var) (p : Plan) (b : Bool) (sets : Sets) (given : List Var) (outer rows : List Env) → Allows (P.Project vars p) b sets given outer rows → Layer (L.Project vars p) b sets given outer rows
from_Project vars p b sets given outer rows h = out (L.Project vars p) _ (P.rolls-Project vars p) b sets given outer rows h

pub faults-Project : (vars : List Var) (p : Plan) (sets : Sets) (given : List Var) (outer : List Env) (what : Bytes) → Faults (P.Project vars p) sets given outer what ≡ FaultLayer (L.Project vars p) sets given outer what
faults-Project vars p sets given outer what = ap (λ (f : Faulting). f sets given outer what) (rolled_faults (L.Project vars p) _ (P.rolls-Project vars p))

pub live-Project : (vars : List Var) (p : Plan) (given : List Var) → live (P.Project vars p) given ≡ vars
live-Project vars p given = ap (λ (f : List Var → List Var). f given) (ap live (sym (P.rolls-Project vars p)) ∙ live-roll (L.Project vars p))

pub ordered-Project : (vars : List Var) (p : Plan) → ordered (P.Project vars p) ≡ ordered_step (map-Plan Plan (Bool) ordered (L.Project vars p))
ordered-Project vars p = ap ordered (sym (P.rolls-Project vars p)) ∙ ordered-roll (L.Project vars p)

pub scans-Project : (vars : List Var) (p : Plan) → scans (P.Project vars p) ≡ scans_step (map-Plan Plan (List Scan) scans (L.Project vars p))
scans-Project vars p = ap scans (sym (P.rolls-Project vars p)) ∙ scans-roll (L.Project vars p)

pub makes-Project : (vars : List Var) (p : Plan) → makes (P.Project vars p) ≡ makes_step (map-Plan Plan (List Var) makes (L.Project vars p))
makes-Project vars p = ap makes (sym (P.rolls-Project vars p)) ∙ makes-roll (L.Project vars p)

pub result-Project : (vars : List Var) (p : Plan) → result_of (P.Project vars p) ≡ None
result-Project vars p = ap result_of (sym (P.rolls-Project vars p)) ∙ result-roll (L.Project vars p)

pub allows_Unnest : (v : Var) (g : Generator) (p : Plan) (b : Bool) (sets : Sets) (given : List Var) (outer rows : List Env) → Layer (L.Unnest v g p) b sets given outer rows → Allows (P.Unnest v g p) b sets given outer rows
allows_Unnest v g p b sets given outer rows h = into (L.Unnest v g p) _ (P.rolls-Unnest v g p) b sets given outer rows h

pub from_Unnest : (v : Var) (g : Generator) (p : Plan) (b : Bool) (sets : Sets) (given : List Var) (outer rows : List Env) → Allows (P.Unnest v g p) b sets given outer rows → Layer (L.Unnest v g p) b sets given outer rows
from_Unnest v g p b sets given outer rows h = out (L.Unnest v g p) _ (P.rolls-Unnest v g p) b sets given outer rows h

pub faults-Unnest : (v : Var) (g : Generator) (p : Plan) (sets : Sets) (given : List Var) (outer : List Env) (what : Bytes) → Faults (P.Unnest v g p) sets given outer what ≡ FaultLayer (L.Unnest v g p) sets given outer what
faults-Unnest v g p sets given outer what = ap (λ (f : Faulting). f sets given outer what) (rolled_faults (L.Unnest v g p) _ (P.rolls-Unnest v g p))

pub live-Unnest : (v : Var) (g : Generator) (p : Plan) (given : List Var) → live (P.Unnest v g p) given ≡ live p given ++ v ∷ []
live-Unnest v g p given = ap (λ (f : List Var → List Var). f given) (ap live (sym (P.rolls-Unnest v g p)) ∙ live-roll (L.Unnest v g p))

pub ordered-Unnest : (v : Var) (g : Generator) (p : Plan) → ordered (P.Unnest v g p) ≡ ordered_step (map-Plan Plan (Bool) ordered (L.Unnest v g p))
ordered-Unnest v g p = ap ordered (sym (P.rolls-Unnest v g p)) ∙ ordered-roll (L.Unnest v g p)

pub scans-Unnest : (v : Var) (g : Generator) (p : Plan) → scans (P.Unnest v g p) ≡ scans_step (map-Plan Plan (List Scan) scans (L.Unnest v g p))
scans-Unnest v g p = ap scans (sym (P.rolls-Unnest v g p)) ∙ scans-roll (L.Unnest v g p)

pub makes-Unnest : (v : Var) (g : Generator) (p : Plan) → makes (P.Unnest v g p) ≡ makes_step (map-Plan Plan (List Var) makes (L.Unnest v g p))
makes-Unnest v g p = ap makes (sym (P.rolls-Unnest v g p)) ∙ makes-roll (L.Unnest v g p)

pub result-Unnest : (v : Var) (g : Generator) (p : Plan) → result_of (P.Unnest v g p) ≡ None
result-Unnest v g p = ap result_of (sym (P.rolls-Unnest v g p)) ∙ result-roll (L.Unnest v g p)

pub allows_Subplan : (n p : Plan) (b : Bool) (sets : Sets) (given : List Var) (outer rows : List Env) → Layer (L.Subplan n p) b sets given outer rows → Allows (P.Subplan n p) b sets given outer rows
allows_Subplan n p b sets given outer rows h = into (L.Subplan n p) _ (P.rolls-Subplan n p) b sets given outer rows h

pub from_Subplan : (n p : Plan) (b : Bool) (sets : Sets) (given : List Var) (outer rows : List Env) → Allows (P.Subplan n p) b sets given outer rows → Layer (L.Subplan n p) b sets given outer rows
from_Subplan n p b sets given outer rows h = out (L.Subplan n p) _ (P.rolls-Subplan n p) b sets given outer rows h

pub faults-Subplan : (n p : Plan) (sets : Sets) (given : List Var) (outer : List Env) (what : Bytes) → Faults (P.Subplan n p) sets given outer what ≡ FaultLayer (L.Subplan n p) sets given outer what
faults-Subplan n p sets given outer what = ap (λ (f : Faulting). f sets given outer what) (rolled_faults (L.Subplan n p) _ (P.rolls-Subplan n p))

pub each-Subplan : (n p : Plan) (inside : Bool) (given : List Var) → FitsEach (P.Subplan n p) inside given ≡ EachLayer (L.Subplan n p) inside given
each-Subplan n p inside given = ap (λ (f : Fitting). f inside given) (rolled_each (L.Subplan n p) _ (P.rolls-Subplan n p))

pub live-Subplan : (n p : Plan) (given : List Var) → live (P.Subplan n p) given ≡ live p given ++ live n (live p given)
live-Subplan n p given = ap (λ (f : List Var → List Var). f given) (ap live (sym (P.rolls-Subplan n p)) ∙ live-roll (L.Subplan n p))

pub ordered-Subplan : (n p : Plan) → ordered (P.Subplan n p) ≡ ordered_step (map-Plan Plan (Bool) ordered (L.Subplan n p))
ordered-Subplan n p = ap ordered (sym (P.rolls-Subplan n p)) ∙ ordered-roll (L.Subplan n p)

pub scans-Subplan : (n p : Plan) → scans (P.Subplan n p) ≡ scans_step (map-Plan Plan (List Scan) scans (L.Subplan n p))
scans-Subplan n p = ap scans (sym (P.rolls-Subplan n p)) ∙ scans-roll (L.Subplan n p)

pub makes-Subplan : (n p : Plan) → makes (P.Subplan n p) ≡ makes_step (map-Plan Plan (List Var) makes (L.Subplan n p))
makes-Subplan n p = ap makes (sym (P.rolls-Subplan n p)) ∙ makes-roll (L.Subplan n p)

pub result-Subplan : (n p : Plan) → result_of (P.Subplan n p) ≡ None
result-Subplan n p = ap result_of (sym (P.rolls-Subplan n p)) ∙ result-roll (L.Subplan n p)

pub allows_Join : (c : Expr) (l r : Plan) (b : Bool) (sets : Sets) (given : List Var) (outer rows : List Env) → Layer (L.Join c l r) b sets given outer rows → Allows (P.Join c l r) b sets given outer rows
allows_Join c l r b sets given outer rows h = into (L.Join c l r) _ (P.rolls-Join c l r) b sets given outer rows h

pub from_Join : (c : Expr) (l r : Plan) (b : Bool) (sets : Sets) (given : List Var) (outer rows : List Env) → Allows (P.Join c l r) b sets given outer rows → Layer (L.Join c l r) b sets given outer rows
from_Join c l r b sets given outer rows h = out (L.Join c l r) _ (P.rolls-Join c l r) b sets given outer rows h

pub faults-Join : (c : Expr) (l r : Plan) (sets : Sets) (given : List Var) (outer : List Env) (what : Bytes) → Faults (P.Join c l r) sets given outer what ≡ FaultLayer (L.Join c l r) sets given outer what
faults-Join c l r sets given outer what = ap (λ (f : Faulting). f sets given outer what) (rolled_faults (L.Join c l r) _ (P.rolls-Join c l r))

pub live-Join : (c : Expr) (l r : Plan) (given : List Var) → live (P.Join c l r) given ≡ live l given ++ live r given
live-Join c l r given = ap (λ (f : List Var → List Var). f given) (ap live (sym (P.rolls-Join c l r)) ∙ live-roll (L.Join c l r))

pub ordered-Join : (c : Expr) (l r : Plan) → ordered (P.Join c l r) ≡ ordered_step (map-Plan Plan (Bool) ordered (L.Join c l r))
ordered-Join c l r = ap ordered (sym (P.rolls-Join c l r)) ∙ ordered-roll (L.Join c l r)

pub scans-Join : (c : Expr) (l r : Plan) → scans (P.Join c l r) ≡ scans_step (map-Plan Plan (List Scan) scans (L.Join c l r))
scans-Join c l r = ap scans (sym (P.rolls-Join c l r)) ∙ scans-roll (L.Join c l r)

pub makes-Join : (c : Expr) (l r : Plan) → makes (P.Join c l r) ≡ makes_step (map-Plan Plan (List Var) makes (L.Join c l r))
makes-Join c l r = ap makes (sym (P.rolls-Join c l r)) ∙ makes-roll (L.Join c l r)

pub result-Join : (c : Expr) (l r : Plan) → result_of (P.Join c l r) ≡ None
result-Join c l r = ap result_of (sym (P.rolls-Join c l r)) ∙ result-roll (L.Join c l r)

pub allows_LeftJoin : (c : Expr) (l r : Plan) (b : Bool) (sets : Sets) (given : List Var) (outer rows : List Env) → Layer (L.LeftJoin c l r) b sets given outer rows → Allows (P.LeftJoin c l r) b sets given outer rows
allows_LeftJoin c l r b sets given outer rows h = into (L.LeftJoin c l r) _ (P.rolls-LeftJoin c l r) b sets given outer rows h

pub from_LeftJoin : (c : Expr) (l r : Plan) (b : Bool) (sets : Sets) (given : List Var) (outer rows : List Env) → Allows (P.LeftJoin c l r) b sets given outer rows → Layer (L.LeftJoin c l r) b sets given outer rows
from_LeftJoin c l r b sets given outer rows h = out (L.LeftJoin c l r) _ (P.rolls-LeftJoin c l r) b sets given outer rows h

pub faults-LeftJoin : (c : Expr) (l r : Plan) (sets : Sets) (given : List Var) (outer : List Env) (what : Bytes) → Faults (P.LeftJoin c l r) sets given outer what ≡ FaultLayer (L.LeftJoin c l r) sets given outer what
faults-LeftJoin c l r sets given outer what = ap (λ (f : Faulting). f sets given outer what) (rolled_faults (L.LeftJoin c l r) _ (P.rolls-LeftJoin c l r))

pub live-LeftJoin : (c : Expr) (l r : Plan) (given : List Var) → live (P.LeftJoin c l r) given ≡ live l given ++ live r given
live-LeftJoin c l r given = ap (λ (f : List Var → List Var). f given) (ap live (sym (P.rolls-LeftJoin c l r)) ∙ live-roll (L.LeftJoin c l r))

pub ordered-LeftJoin : (c : Expr) (l r : Plan) → ordered (P.LeftJoin c l r) ≡ ordered_step (map-Plan Plan (Bool) ordered (L.LeftJoin c l r))
ordered-LeftJoin c l r = ap ordered (sym (P.rolls-LeftJoin c l r)) ∙ ordered-roll (L.LeftJoin c l r)

pub scans-LeftJoin : (c : Expr) (l r : Plan) → scans (P.LeftJoin c l r) ≡ scans_step (map-Plan Plan (List Scan) scans (L.LeftJoin c l r))
scans-LeftJoin c l r = ap scans (sym (P.rolls-LeftJoin c l r)) ∙ scans-roll (L.LeftJoin c l r)

pub makes-LeftJoin : (c : Expr) (l r : Plan) → makes (P.LeftJoin c l r) ≡ makes_step (map-Plan Plan (List Var) makes (L.LeftJoin c l r))
makes-LeftJoin c l r = ap makes (sym (P.rolls-LeftJoin c l r)) ∙ makes-roll (L.LeftJoin c l r)

pub result-LeftJoin : (c : Expr) (l r : Plan) → result_of (P.LeftJoin c l r) ≡ None
result-LeftJoin c l r = ap result_of (sym (P.rolls-LeftJoin c l r)) ∙ result-roll (L.LeftJoin c l r)

pub allows_Group : (keys : List (Var × Var)) (n p : Plan) (b : Bool) (sets : Sets) (given : List Var) (outer rows : List Env) → Layer (L.Group keys n p) b sets given outer rows → Allows (P.Group keys n p) b sets given outer rows
allows_Group keys n p b sets given outer rows h = into (L.Group keys n p) _ (P.rolls-Group keys n p) b sets given outer rows h

pub from_Group : (keys : List (Var × Var)) (n p : Plan) (b : Bool) (sets : Sets) (given : List Var) (outer rows : List Env) → Allows (P.Group keys n p) b sets given outer rows → Layer (L.Group keys n p) b sets given outer rows
from_Group keys n p b sets given outer rows h = out (L.Group keys n p) _ (P.rolls-Group keys n p) b sets given outer rows h

pub faults-Group : (keys : List (Var × Var)) (n p : Plan) (sets : Sets) (given : List Var) (outer : List Env) (what : Bytes) → Faults (P.Group keys n p) sets given outer what ≡ FaultLayer (L.Group keys n p) sets given outer what
faults-Group keys n p sets given outer what = ap (λ (f : Faulting). f sets given outer what) (rolled_faults (L.Group keys n p) _ (P.rolls-Group keys n p))

pub each-Group : (keys : List (Var × Var)) (n p : Plan) (inside : Bool) (given : List Var) → FitsEach (P.Group keys n p) inside given ≡ EachLayer (L.Group keys n p) inside given
each-Group keys n p inside given = ap (λ (f : Fitting). f inside given) (rolled_each (L.Group keys n p) _ (P.rolls-Group keys n p))

pub live-Group : (keys : List (Var × Var)) (n p : Plan) (given : List Var) → live (P.Group keys n p) given ≡ map (λ k. k.0) keys ++ live n (live p given)
live-Group keys n p given = ap (λ (f : List Var → List Var). f given) (ap live (sym (P.rolls-Group keys n p)) ∙ live-roll (L.Group keys n p))

pub ordered-Group : (keys : List (Var × Var)) (n p : Plan) → ordered (P.Group keys n p) ≡ ordered_step (map-Plan Plan (Bool) ordered (L.Group keys n p))
ordered-Group keys n p = ap ordered (sym (P.rolls-Group keys n p)) ∙ ordered-roll (L.Group keys n p)

pub scans-Group : (keys : List (Var × Var)) (n p : Plan) → scans (P.Group keys n p) ≡ scans_step (map-Plan Plan (List Scan) scans (L.Group keys n p))
scans-Group keys n p = ap scans (sym (P.rolls-Group keys n p)) ∙ scans-roll (L.Group keys n p)

pub makes-Group : (keys : List (Var × Var)) (n p : Plan) → makes (P.Group keys n p) ≡ makes_step (map-Plan Plan (List Var) makes (L.Group keys n p))
makes-Group keys n p = ap makes (sym (P.rolls-Group keys n p)) ∙ makes-roll (L.Group keys n p)

pub result-Group : (keys : List (Var × Var)) (n p : Plan) → result_of (P.Group keys n p) ≡ None
result-Group keys n p = ap result_of (sym (P.rolls-Group keys n p)) ∙ result-roll (L.Group keys n p)

pub allows_Distinct : (p : Plan) (b : Bool) (sets : Sets) (given : List Var) (outer rows : List Env) → Layer (L.Distinct p) b sets given outer rows → Allows (P.Distinct p) b sets given outer rows
allows_Distinct p b sets given outer rows h = into (L.Distinct p) _ (P.rolls-Distinct p) b sets given outer rows h

pub from_Distinct : (p : Plan) (b : Bool) (sets : Sets) (given : List Var) (outer rows : List Env) → Allows (P.Distinct p) b sets given outer rows → Layer (L.Distinct p) b sets given outer rows
from_Distinct p b sets given outer rows h = out (L.Distinct p) _ (P.rolls-Distinct p) b sets given outer rows h

pub faults-Distinct : (p : Plan) (sets : Sets) (given : List Var) (outer : List Env) (what : Bytes) → Faults (P.Distinct p) sets given outer what ≡ FaultLayer (L.Distinct p) sets given outer what
faults-Distinct p sets given outer what = ap (λ (f : Faulting). f sets given outer what) (rolled_faults (L.Distinct p) _ (P.rolls-Distinct p))

pub each-Distinct : (p : Plan) (inside : Bool) (given : List Var) → FitsEach (P.Distinct p) inside given ≡ EachLayer (L.Distinct p) inside given
each-Distinct p inside given = ap (λ (f : Fitting). f inside given) (rolled_each (L.Distinct p) _ (P.rolls-Distinct p))

pub live-Distinct : (p : Plan) (given : List Var) → live (P.Distinct p) given ≡ live p given
live-Distinct p given = ap (λ (f : List Var → List Var). f given) (ap live (sym (P.rolls-Distinct p)) ∙ live-roll (L.Distinct p))

pub ordered-Distinct : (p : Plan) → ordered (P.Distinct p) ≡ ordered_step (map-Plan Plan (Bool) ordered (L.Distinct p))
ordered-Distinct p = ap ordered (sym (P.rolls-Distinct p)) ∙ ordered-roll (L.Distinct p)

pub scans-Distinct : (p : Plan) → scans (P.Distinct p) ≡ scans_step (map-Plan Plan (List Scan) scans (L.Distinct p))
scans-Distinct p = ap scans (sym (P.rolls-Distinct p)) ∙ scans-roll (L.Distinct p)

pub makes-Distinct : (p : Plan) → makes (P.Distinct p) ≡ makes_step (map-Plan Plan (List Var) makes (L.Distinct p))
makes-Distinct p = ap makes (sym (P.rolls-Distinct p)) ∙ makes-roll (L.Distinct p)

pub result-Distinct : (p : Plan) → result_of (P.Distinct p) ≡ None
result-Distinct p = ap result_of (sym (P.rolls-Distinct p)) ∙ result-roll (L.Distinct p)

pub allows_Union : (made ls rs : List Var) (l r : Plan) (b : Bool) (sets : Sets) (given : List Var) (outer rows : List Env) → Layer (L.Union made ls rs l r) b sets given outer rows → Allows (P.Union made ls rs l r) b sets given outer rows
allows_Union made ls rs l r b sets given outer rows h = into (L.Union made ls rs l r) _ (P.rolls-Union made ls rs l r) b sets given outer rows h

pub from_Union : (made ls rs : List Var) (l r : Plan) (b : Bool) (sets : Sets) (given : List Var) (outer rows : List Env) → Allows (P.Union made ls rs l r) b sets given outer rows → Layer (L.Union made ls rs l r) b sets given outer rows
from_Union made ls rs l r b sets given outer rows h = out (L.Union made ls rs l r) _ (P.rolls-Union made ls rs l r) b sets given outer rows h

pub faults-Union : (made ls rs : List Var) (l r : Plan) (sets : Sets) (given : List Var) (outer : List Env) (what : Bytes) → Faults (P.Union made ls rs l r) sets given outer what ≡ FaultLayer (L.Union made ls rs l r) sets given outer what
faults-Union made ls rs l r sets given outer what = ap (λ (f : Faulting). f sets given outer what) (rolled_faults (L.Union made ls rs l r) _ (P.rolls-Union made ls rs l r))

pub each-Union : (made ls rs : List Var) (l r : Plan) (inside : Bool) (given : List Var) → FitsEach (P.Union made ls rs l r) inside given ≡ EachLayer (L.Union made ls rs l r) inside given
each-Union made ls rs l r inside given = ap (λ (f : Fitting). f inside given) (rolled_each (L.Union made ls rs l r) _ (P.rolls-Union made ls rs l r))

pub live-Union : (made ls rs : List Var) (l r : Plan) (given : List Var) → live (P.Union made ls rs l r) given ≡ made
live-Union made ls rs l r given = ap (λ (f : List Var → List Var). f given) (ap live (sym (P.rolls-Union made ls rs l r)) ∙ live-roll (L.Union made ls rs l r))

pub ordered-Union : (made ls rs : List Var) (l r : Plan) → ordered (P.Union made ls rs l r) ≡ ordered_step (map-Plan Plan (Bool) ordered (L.Union made ls rs l r))
ordered-Union made ls rs l r = ap ordered (sym (P.rolls-Union made ls rs l r)) ∙ ordered-roll (L.Union made ls rs l r)

pub scans-Union : (made ls rs : List Var) (l r : Plan) → scans (P.Union made ls rs l r) ≡ scans_step (map-Plan Plan (List Scan) scans (L.Union made ls rs l r))
scans-Union made ls rs l r = ap scans (sym (P.rolls-Union made ls rs l r)) ∙ scans-roll (L.Union made ls rs l r)

pub makes-Union : (made ls rs : List Var) (l r : Plan) → makes (P.Union made ls rs l r) ≡ makes_step (map-Plan Plan (List Var) makes (L.Union made ls rs l r))
makes-Union made ls rs l r = ap makes (sym (P.rolls-Union made ls rs l r)) ∙ makes-roll (L.Union made ls rs l r)

pub result-Union : (made ls rs : List Var) (l r : Plan) → result_of (P.Union made ls rs l r) ≡ None
result-Union made ls rs l r = ap result_of (sym (P.rolls-Union made ls rs l r)) ∙ result-roll (L.Union made ls rs l r)

pub allows_Aggregate : (made : List (Var × AggCall)) (p : Plan) (b : Bool) (sets : Sets) (given : List Var) (outer rows : List Env) → Layer (L.Aggregate made p) b sets given outer rows → Allows (P.Aggregate made p) b sets given outer rows
allows_Aggregate made p b sets given outer rows h = into (L.Aggregate made p) _ (P.rolls-Aggregate made p) b sets given outer rows h

pub from_Aggregate : (made : List (Var × AggCall)) (p : Plan) (b : Bool) (sets : Sets) (given : List Var) (outer rows : List Env) → Allows (P.Aggregate made p) b sets given outer rows → Layer (L.Aggregate made p) b sets given outer rows
from_Aggregate made p b sets given outer rows h = out (L.Aggregate made p) _ (P.rolls-Aggregate made p) b sets given outer rows h

pub faults-Aggregate : (made : List (Var × AggCall)) (p : Plan) (sets : Sets) (given : List Var) (outer : List Env) (what : Bytes) → Faults (P.Aggregate made p) sets given outer what ≡ FaultLayer (L.Aggregate made p) sets given outer what
faults-Aggregate made p sets given outer what = ap (λ (f : Faulting). f sets given outer what) (rolled_faults (L.Aggregate made p) _ (P.rolls-Aggregate made p))

pub each-Aggregate : (made : List (Var × AggCall)) (p : Plan) (inside : Bool) (given : List Var) → FitsEach (P.Aggregate made p) inside given ≡ EachLayer (L.Aggregate made p) inside given
each-Aggregate made p inside given = ap (λ (f : Fitting). f inside given) (rolled_each (L.Aggregate made p) _ (P.rolls-Aggregate made p))

pub live-Aggregate : (made : List (Var × AggCall)) (p : Plan) (given : List Var) → live (P.Aggregate made p) given ≡ map (λ m. m.0) made
live-Aggregate made p given = ap (λ (f : List Var → List Var). f given) (ap live (sym (P.rolls-Aggregate made p)) ∙ live-roll (L.Aggregate made p))

pub ordered-Aggregate : (made : List (Var × AggCall)) (p : Plan) → ordered (P.Aggregate made p) ≡ ordered_step (map-Plan Plan (Bool) ordered (L.Aggregate made p))
ordered-Aggregate made p = ap ordered (sym (P.rolls-Aggregate made p)) ∙ ordered-roll (L.Aggregate made p)

pub scans-Aggregate : (made : List (Var × AggCall)) (p : Plan) → scans (P.Aggregate made p) ≡ scans_step (map-Plan Plan (List Scan) scans (L.Aggregate made p))
scans-Aggregate made p = ap scans (sym (P.rolls-Aggregate made p)) ∙ scans-roll (L.Aggregate made p)

pub makes-Aggregate : (made : List (Var × AggCall)) (p : Plan) → makes (P.Aggregate made p) ≡ makes_step (map-Plan Plan (List Var) makes (L.Aggregate made p))
makes-Aggregate made p = ap makes (sym (P.rolls-Aggregate made p)) ∙ makes-roll (L.Aggregate made p)

pub result-Aggregate : (made : List (Var × AggCall)) (p : Plan) → result_of (P.Aggregate made p) ≡ None
result-Aggregate made p = ap result_of (sym (P.rolls-Aggregate made p)) ∙ result-roll (L.Aggregate made p)

pub allows_Order : (keys : List OrderKey) (p : Plan) (b : Bool) (sets : Sets) (given : List Var) (outer rows : List Env) → Layer (L.Order keys p) b sets given outer rows → Allows (P.Order keys p) b sets given outer rows
allows_Order keys p b sets given outer rows h = into (L.Order keys p) _ (P.rolls-Order keys p) b sets given outer rows h

pub from_Order : (keys : List OrderKey) (p : Plan) (b : Bool) (sets : Sets) (given : List Var) (outer rows : List Env) → Allows (P.Order keys p) b sets given outer rows → Layer (L.Order keys p) b sets given outer rows
from_Order keys p b sets given outer rows h = out (L.Order keys p) _ (P.rolls-Order keys p) b sets given outer rows h

pub faults-Order : (keys : List OrderKey) (p : Plan) (sets : Sets) (given : List Var) (outer : List Env) (what : Bytes) → Faults (P.Order keys p) sets given outer what ≡ FaultLayer (L.Order keys p) sets given outer what
faults-Order keys p sets given outer what = ap (λ (f : Faulting). f sets given outer what) (rolled_faults (L.Order keys p) _ (P.rolls-Order keys p))

pub live-Order : (keys : List OrderKey) (p : Plan) (given : List Var) → live (P.Order keys p) given ≡ live p given
live-Order keys p given = ap (λ (f : List Var → List Var). f given) (ap live (sym (P.rolls-Order keys p)) ∙ live-roll (L.Order keys p))

pub ordered-Order : (keys : List OrderKey) (p : Plan) → ordered (P.Order keys p) ≡ ordered_step (map-Plan Plan (Bool) ordered (L.Order keys p))
ordered-Order keys p = ap ordered (sym (P.rolls-Order keys p)) ∙ ordered-roll (L.Order keys p)

pub scans-Order : (keys : List OrderKey) (p : Plan) → scans (P.Order keys p) ≡ scans_step (map-Plan Plan (List Scan) scans (L.Order keys p))
scans-Order keys p = ap scans (sym (P.rolls-Order keys p)) ∙ scans-roll (L.Order keys p)

pub makes-Order : (keys : List OrderKey) (p : Plan) → makes (P.Order keys p) ≡ makes_step (map-Plan Plan (List Var) makes (L.Order keys p))
makes-Order keys p = ap makes (sym (P.rolls-Order keys p)) ∙ makes-roll (L.Order keys p)

pub result-Order : (keys : List OrderKey) (p : Plan) → result_of (P.Order keys p) ≡ None
result-Order keys p = ap result_of (sym (P.rolls-Order keys p)) ∙ result-roll (L.Order keys p)

pub allows_Limit : (n k : ℕ) (p : Plan) (b : Bool) (sets : Sets) (given : List Var) (outer rows : List Env) → Layer (L.Limit n k p) b sets given outer rows → Allows (P.Limit n k p) b sets given outer rows
allows_Limit n k p b sets given outer rows h = into (L.Limit n k p) _ (P.rolls-Limit n k p) b sets given outer rows h

pub from_Limit : (n k : ℕ) (p : Plan) (b : Bool) (sets : Sets) (given : List Var) (outer rows : List Env) → Allows (P.Limit n k p) b sets given outer rows → Layer (L.Limit n k p) b sets given outer rows
from_Limit n k p b sets given outer rows h = out (L.Limit n k p) _ (P.rolls-Limit n k p) b sets given outer rows h

pub faults-Limit : (n k : ℕ) (p : Plan) (sets : Sets) (given : List Var) (outer : List Env) (what : Bytes) → Faults (P.Limit n k p) sets given outer what ≡ FaultLayer (L.Limit n k p) sets given outer what
faults-Limit n k p sets given outer what = ap (λ (f : Faulting). f sets given outer what) (rolled_faults (L.Limit n k p) _ (P.rolls-Limit n k p))

pub live-Limit : (n k : ℕ) (p : Plan) (given : List Var) → live (P.Limit n k p) given ≡ live p given
live-Limit n k p given = ap (λ (f : List Var → List Var). f given) (ap live (sym (P.rolls-Limit n k p)) ∙ live-roll (L.Limit n k p))

pub ordered-Limit : (n k : ℕ) (p : Plan) → ordered (P.Limit n k p) ≡ ordered_step (map-Plan Plan (Bool) ordered (L.Limit n k p))
ordered-Limit n k p = ap ordered (sym (P.rolls-Limit n k p)) ∙ ordered-roll (L.Limit n k p)

pub scans-Limit : (n k : ℕ) (p : Plan) → scans (P.Limit n k p) ≡ scans_step (map-Plan Plan (List Scan) scans (L.Limit n k p))
scans-Limit n k p = ap scans (sym (P.rolls-Limit n k p)) ∙ scans-roll (L.Limit n k p)

pub makes-Limit : (n k : ℕ) (p : Plan) → makes (P.Limit n k p) ≡ makes_step (map-Plan Plan (List Var) makes (L.Limit n k p))
makes-Limit n k p = ap makes (sym (P.rolls-Limit n k p)) ∙ makes-roll (L.Limit n k p)

pub result-Limit : (n k : ℕ) (p : Plan) → result_of (P.Limit n k p) ≡ None
result-Limit n k p = ap result_of (sym (P.rolls-Limit n k p)) ∙ result-roll (L.Limit n k p)

pub allows_Check : (name : Bytes) (c : Expr) (p : Plan) (b : Bool) (sets : Sets) (given : List Var) (outer rows : List Env) → Layer (L.Check name c p) b sets given outer rows → Allows (P.Check name c p) b sets given outer rows
allows_Check name c p b sets given outer rows h = into (L.Check name c p) _ (P.rolls-Check name c p) b sets given outer rows h

pub from_Check : (name : Bytes) (c : Expr) (p : Plan) (b : Bool) (sets : Sets) (given : List Var) (outer rows : List Env) → Allows (P.Check name c p) b sets given outer rows → Layer (L.Check name c p) b sets given outer rows
from_Check name c p b sets given outer rows h = out (L.Check name c p) _ (P.rolls-Check name c p) b sets given outer rows h

pub faults-Check : (name : Bytes) (c : Expr) (p : Plan) (sets : Sets) (given : List Var) (outer : List Env) (what : Bytes) → Faults (P.Check name c p) sets given outer what ≡ FaultLayer (L.Check name c p) sets given outer what
faults-Check name c p sets given outer what = ap (λ (f : Faulting). f sets given outer what) (rolled_faults (L.Check name c p) _ (P.rolls-Check name c p))

pub each-Check : (name : Bytes) (c : Expr) (p : Plan) (inside : Bool) (given : List Var) → FitsEach (P.Check name c p) inside given ≡ EachLayer (L.Check name c p) inside given
each-Check name c p inside given = ap (λ (f : Fitting). f inside given) (rolled_each (L.Check name c p) _ (P.rolls-Check name c p))

pub live-Check : (name : Bytes) (c : Expr) (p : Plan) (given : List Var) → live (P.Check name c p) given ≡ live p given
live-Check name c p given = ap (λ (f : List Var → List Var). f given) (ap live (sym (P.rolls-Check name c p)) ∙ live-roll (L.Check name c p))

pub ordered-Check : (name : Bytes) (c : Expr) (p : Plan) → ordered (P.Check name c p) ≡ ordered_step (map-Plan Plan (Bool) ordered (L.Check name c p))
ordered-Check name c p = ap ordered (sym (P.rolls-Check name c p)) ∙ ordered-roll (L.Check name c p)

pub allows_Result : (vars : List Var) (p : Plan) (b : Bool) (sets : Sets) (given : List Var) (outer rows : List Env) → Layer (L.Result vars p) b sets given outer rows → Allows (P.Result vars p) b sets given outer rows
allows_Result vars p b sets given outer rows h = into (L.Result vars p) _ (P.rolls-Result vars p) b sets given outer rows h

pub from_Result : (vars : List Var) (p : Plan) (b : Bool) (sets : Sets) (given : List Var) (outer rows : List Env) → Allows (P.Result vars p) b sets given outer rows → Layer (L.Result vars p) b sets given outer rows
from_Result vars p b sets given outer rows h = out (L.Result vars p) _ (P.rolls-Result vars p) b sets given outer rows h

pub faults-Result : (vars : List Var) (p : Plan) (sets : Sets) (given : List Var) (outer : List Env) (what : Bytes) → Faults (P.Result vars p) sets given outer what ≡ FaultLayer (L.Result vars p) sets given outer what
faults-Result vars p sets given outer what = ap (λ (f : Faulting). f sets given outer what) (rolled_faults (L.Result vars p) _ (P.rolls-Result vars p))

pub live-Result : (vars : List Var) (p : Plan) (given : List Var) → live (P.Result vars p) given ≡ vars
live-Result vars p given = ap (λ (f : List Var → List Var). f given) (ap live (sym (P.rolls-Result vars p)) ∙ live-roll (L.Result vars p))

pub ordered-Result : (vars : List Var) (p : Plan) → ordered (P.Result vars p) ≡ ordered_step (map-Plan Plan (Bool) ordered (L.Result vars p))
ordered-Result vars p = ap ordered (sym (P.rolls-Result vars p)) ∙ ordered-roll (L.Result vars p)

pub scans-Result : (vars : List Var) (p : Plan) → scans (P.Result vars p) ≡ scans_step (map-Plan Plan (List Scan) scans (L.Result vars p))
scans-Result vars p = ap scans (sym (P.rolls-Result vars p)) ∙ scans-roll (L.Result vars p)

pub makes-Result : (vars : List Var) (p : Plan) → makes (P.Result vars p) ≡ makes_step (map-Plan Plan (List Var) makes (L.Result vars p))
makes-Result vars p = ap makes (sym (P.rolls-Result vars p)) ∙ makes-roll (L.Result vars p)

pub result-Result : (vars : List Var) (p : Plan) → result_of (P.Result vars p) ≡ Some vars
result-Result vars p = ap result_of (sym (P.rolls-Result vars p)) ∙ result-roll (L.Result vars p)
