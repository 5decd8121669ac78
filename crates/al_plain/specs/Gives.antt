-- What the plain evaluation of a plan owes.
use Rattle.std.specs.Prelude.{◌≡◌, Bool, true, false, List, [], ◌∷◌, Result, Ok, Err, map, length, nat_eq, if◌then◌else◌}
use Rattle.std.specs.List.{All, Contains}
use Rattle.std.specs.Cmp.Lexicographic.{pointwise}
use Rattle.al_plan.specs.declared.expr.Var.{Var}
use Rattle.al_plan.specs.declared.plan.Plan.{Plan}
use Rattle.al_plan.specs.declared.expr.Expr.{Expr}
use Rattle.al_plan.specs.Eval.{Bytes, bind, holds}
use Rattle.al_plan.specs.Allows.{Sets, Allows, Faults, live, is_among}
use Rattle.al_plan.specs.Refines.{FitsEach, Fills, NoTwice, makes, scans, is_aggregate}
use Rattle.al_plain.specs.declared.plan.Data.{Data}
use Rattle.al_plain.specs.declared.plan.Rows.{Rows}
use Rattle.al_plain.specs.declared.plan.PlainFault.{PlainFault}
use Rattle.al_plain.specs.declared.plan.PlainFault.TheVariants as F
use Rattle.al_plain.specs.Rows.{Cells}

-- the rows of the first dataset of a name, and none where no dataset has it
abbrev pub sets_of : List Data → Sets
sets_of [] q = []
sets_of (d ∷ ds) q = if pointwise nat_eq d.name q then d.rows else sets_of ds q

-- each row has a value for each of the variables
abbrev pub AreWide : List Var → List Cells → Type 0
AreWide vars rows = All (λ r. length r ≡ length vars) rows

-- the rows are a list that the plan allows, with their values in the order of `vars`; `outer` are the outer rows over `given`
pub record IsGiven (p : Plan) (sets : Sets) (given : List Var) (outer : List Cells) (vars : List Var) (rows : List Cells) : Type 0 where
  pub allowed : Allows p false sets given (map (bind given) outer) (map (bind vars) rows)
  pub wide : AreWide vars rows

-- the rows are a list that the plan allows, with their values in the order of its live variables
abbrev pub Gives : Plan → Sets → List Cells → Type 0
Gives p sets rows = IsGiven p sets [] [] (live p []) rows

-- the plan fits where it stands, and so do its datasets and its outer rows
pub record Placed (inside : Bool) (p : Plan) (sets : Sets) (given : List Var) (outer : List Cells) : Type 0 where
  pub fits : FitsEach p inside given
  pub given_once : NoTwice given
  pub made_once : NoTwice (makes p)
  pub made_new : (q : Bytes) → is_among given q ≡ true → is_among (makes p) q ≡ false
  pub none_given : inside ≡ false → given ≡ []
  pub fills : Fills (scans p) sets
  pub wide : AreWide given outer

-- the plan fits as a nested plan over any rows of these variables, and is an aggregate
pub record IsNestable (n : Plan) (sets : Sets) (vars : List Var) : Type 0 where
  pub placed : (rows : List Cells) → AreWide vars rows → Placed true n sets vars rows
  pub root : is_aggregate n ≡ true

-- a check is named only outside nested plans, where it faults
abbrev pub Blames : Bool → Plan → Sets → List Var → List Cells → PlainFault → Type 0
Blames inside p sets given outer (F.Check name) = (inside ≡ false) × Faults p sets given (map (bind given) outer) name
Blames inside p sets given outer F.NoMemory = Unit {0}

-- a check is named whose condition is not TRUE over one of the rows
abbrev pub Fails : Bytes → Expr → List Var → List Cells → PlainFault → Type 0
Fails own c vars rows (F.Check name) = (name ≡ own) × ((r : Cells) × Contains rows r × (holds c (bind vars r) ≡ false))
Fails own c vars rows F.NoMemory = Unit {0}

-- these rows of these variables
abbrev pub AreRows : List Var → List Cells → Rows → Type 0
AreRows vars rows out = (out.vars ≡ vars) × (out.rows ≡ rows)

-- what the evaluation of a plan answers: its live variables and a list that it allows, or a fault with its cause
abbrev pub Answers : Plan → Sets → List Var → List Cells → Result Rows PlainFault → Type 0
Answers p sets given outer (Ok out) = (out.vars ≡ live p given) × ((inside : Bool) → Placed inside p sets given outer → IsGiven p sets given outer out.vars out.rows)
Answers p sets given outer (Err e) = (inside : Bool) → Placed inside p sets given outer → Blames inside p sets given outer e

-- what the evaluation of a nested plan over rows of `vars` answers: these variables and rows of the claim, or want of memory
abbrev pub AnswersNested : Plan → Sets → List Var → Type 0 → List Var → (List Cells → Type 0) → Result Rows PlainFault → Type 0
AnswersNested n sets vars wide made claim (Ok out) = (out.vars ≡ made) × (IsNestable n sets vars → wide → claim out.rows)
AnswersNested n sets vars wide made claim (Err e) = IsNestable n sets vars → wide → e ≡ F.NoMemory
