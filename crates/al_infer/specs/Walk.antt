-- What the check of a plan tells: the live variables and those that were made, or the first refusal.
use Rattle.std.specs.Prelude.{◌≡◌, ℕ, List, [], ◌∷◌, ◌++◌, Some, None, Result, Ok, Err}
use Rattle.al_csv.specs.declared.decl.Decl.{Decl}
use Rattle.al_plan.specs.declared.expr.Var.{Var}
use Rattle.al_plan.specs.declared.plan.Plan.{Plan, out-Plan}
use Rattle.al_plan.specs.Allows.{live}
use Rattle.al_plan.specs.Refines.{makes}
use Rattle.al_plan.specs.Accept.{Site, made_by, site_refusal, sites}
use Rattle.al_infer.specs.declared.live.Seen.{Seen}
use Rattle.al_infer.specs.declared.walk.Spot.{Spot}
use Rattle.al_infer.specs.declared.walk.Stopped.{Stopped}
use Rattle.al_infer.specs.declared.walk.Stopped.TheVariants as S
use Rattle.al_infer.specs.Inputs.{Sees, parts, inner_makes, inner_sites}

-- an operator where it stands, behind those that make `before`
abbrev pub site_of : Spot → List Var → Plan → Site
site_of spot before op = record { number = spot.number; inside = spot.inside; given = spot.given.now; before = before; op = out-Plan op }

-- the first of these operators that breaks a rule, where the check stopped for one
abbrev pub TellsStop : List Decl → List ℕ → List Site → Stopped → Type 0
TellsStop decls places ss (S.Refused r) = site_refusal decls places ss ≡ Some r
TellsStop decls places ss S.NoMemory = Unit {0}

-- an operator keeps the rules, and the variables that are live at it were told and those that it makes were added; or it breaks one
abbrev pub TellsOperator : List Decl → List ℕ → Spot → List Var → Plan → Result (List Var) Stopped → List Var → Type 0
TellsOperator decls places spot before op (Ok vars) made = (site_refusal decls places (site_of spot before op ∷ []) ≡ None) × (vars ≡ live op spot.given.now) × (made ≡ before ++ made_by (out-Plan op))
TellsOperator decls places spot before op (Err stop) made = TellsStop decls places (site_of spot before op ∷ []) stop

-- the same of all operators in the inputs of an operator
abbrev pub inner_at : Spot → List Var → Plan → List Site
inner_at spot before op = inner_sites (parts (out-Plan op)) spot.number spot.inside spot.given.now before

abbrev pub TellsInputs : List Decl → List ℕ → Spot → List Var → Plan → Result Seen Stopped → List Var → Type 0
TellsInputs decls places spot before op (Ok seen) made = (site_refusal decls places (inner_at spot before op) ≡ None) × Sees spot.given.now (out-Plan op) seen.left seen.right × (made ≡ before ++ inner_makes (parts (out-Plan op)))
TellsInputs decls places spot before op (Err stop) made = TellsStop decls places (inner_at spot before op) stop

-- the same of all operators of a plan
abbrev pub sites_at : Spot → List Var → Plan → List Site
sites_at spot before p = sites p spot.number spot.inside spot.given.now before

abbrev pub TellsPlan : List Decl → List ℕ → Spot → List Var → Plan → Result (List Var) Stopped → List Var → Type 0
TellsPlan decls places spot before p (Ok vars) made = (site_refusal decls places (sites_at spot before p) ≡ None) × (vars ≡ live p spot.given.now) × (made ≡ before ++ makes p)
TellsPlan decls places spot before p (Err stop) made = TellsStop decls places (sites_at spot before p) stop
