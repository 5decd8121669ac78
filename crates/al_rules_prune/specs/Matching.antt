-- Whether a rule matches, and what it makes of a plan.
use Rattle.std.specs.Prelude.{◌≡◌, Bool, true, false, List, ◌++◌, Option, Some, None, Result, Ok, Err, if◌then◌else◌}
use Rattle.al_value.specs.declared.fault.NoMemory.{NoMemory}
use Rattle.al_plan.specs.declared.expr.Var.{Var}
use Rattle.al_plan.specs.declared.expr.Expr.{Expr}
use Rattle.al_plan.specs.declared.plan.Plan.{Plan}
use Rattle.al_plan.specs.declared.plan.Plan.TheVariants as P
use Rattle.al_rule.specs.declared.rule.ApplyFault.{ApplyFault}
use Rattle.al_rule.specs.declared.rule.ApplyFault.TheVariants as A
use Rattle.al_rule.specs.Places.{Rewriting}
use Rattle.al_rule.specs.Rules.{Matches}
use Rattle.al_rules_prune.specs.Prunes.{joined, kept, narrowed, read_by, wide, IsWide}

abbrev pub IsNoProject : Plan → Type 0
IsNoProject p = (vars : List Var) (x : Plan) → p ≡ P.Project vars x → ⊥

abbrev pub IsNoJoined : Plan → Type 0
IsNoJoined p = (left : Bool) (c : Expr) (l r : Plan) → p ≡ joined left c l r → ⊥

-- not a plan that may be rewritten so
abbrev pub IsNot : Rewriting → Plan → Type 0
IsNot R p = Matches R p → ⊥

-- what a plan is rewritten to, or nothing where it is not one that may be rewritten
abbrev pub Rewritten : Rewriting → Plan → Option Plan → Type 0
Rewritten R p None = IsNot R p
Rewritten R p (Some q) = R p q

-- what was made of a plan, and the plan itself where nothing was made or memory ran out
abbrev pub outcome : Plan → Result (Option Plan) NoMemory → Result Plan ApplyFault
outcome p (Ok (Some q)) = Ok q
outcome p (Ok None) = Ok p
outcome p (Err e) = Err (A.NoMemory p)

-- the left one of two plans has other variables than these, or only the right one has
abbrev pub IsWideOn : Bool → List Var → Plan → Plan → Type 0
IsWideOn true vars l r = IsWide vars l
IsWideOn false vars l r = (wide vars l ≡ false) × IsWide vars r

-- neither has
abbrev pub IsNarrow : List Var → Plan → Plan → Type 0
IsNarrow vars l r = (wide vars l ≡ false) × (wide vars r ≡ false)

-- the inputs of which one is cut
abbrev pub left_cut : Bool → List Var → Plan → Plan
left_cut on_left vars l = if on_left then narrowed vars l else l

abbrev pub right_cut : Bool → List Var → Plan → Plan
right_cut on_left vars r = if on_left then r else narrowed vars r

-- of a project, its input
abbrev pub Uncovers : Plan → Plan → Type 0
Uncovers p q = (vars : List Var) (x : Plan) → p ≡ P.Project vars x → q ≡ x

-- of a project over a project, the upper one over the input of the lower one
abbrev pub Merges : Plan → Plan → Type 0
Merges p q = (vars inner : List Var) (x : Plan) → p ≡ P.Project vars (P.Project inner x) → q ≡ P.Project vars x

-- the variables that a select's input is cut to, which has others too
abbrev pub IsSelectCut : Plan → List Var → Type 0
IsSelectCut p some = (vars : List Var) × (e : Expr) × (x : Plan) × (p ≡ P.Project vars (P.Select e x)) × IsWide (vars ++ read_by e) x × (some ≡ kept (vars ++ read_by e) x)

-- of a select, the select over a project of its input
abbrev pub CutsSelect : List Var → Plan → Plan → Type 0
CutsSelect some p q = (e : Expr) (x : Plan) → p ≡ P.Select e x → q ≡ P.Select e (P.Project some x)

-- the same under a project
abbrev pub CutsUnder : List Var → Plan → Plan → Type 0
CutsUnder some p q = (vars : List Var) (e : Expr) (x : Plan) → p ≡ P.Project vars (P.Select e x) → q ≡ P.Project vars (P.Select e (P.Project some x))
