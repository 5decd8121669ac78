-- What fits at an operator of a nested plan.
use Rattle.std.proofs.Common.{Bool, true, List, subst}
use Rattle.al_plan.specs.declared.expr.Var.{Var}
use Rattle.al_plan.specs.declared.plan.Plan.{Plan, roll-Plan}
use Rattle.al_plan.specs.declared.plan.Plan.TheOpen as L
use Rattle.al_plan.specs.Refines.{FitsEach}
use Rattle.al_plan.proofs.PlanLaws.{EachLayer, each-roll}

pub fits_at : (x : L.Plan-F Plan) (vars : List Var) → FitsEach (roll-Plan x) true vars → EachLayer x true vars
fits_at x vars fit = subst (λ (f : Bool → List Var → Type 0). f true vars) (each-roll x) fit
