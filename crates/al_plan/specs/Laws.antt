-- Laws of plans, for the functions that show them.
use Rattle.std.specs.Prelude.{◌≡◌, ℕ, Bool, true, false, List, []}
use Rattle.std.specs.List.{All}
use Rattle.std.specs.List.Sorted.{IsPermutation}
use Rattle.al_plan.specs.declared.expr.Var.{Var}
use Rattle.al_plan.specs.declared.expr.Expr.{Expr}
use Rattle.al_plan.specs.declared.plan.OrderKey.{OrderKey}
use Rattle.al_plan.specs.declared.plan.AggCall.{AggCall}
use Rattle.al_plan.specs.declared.plan.Generator.{Generator}
use Rattle.al_plan.specs.declared.plan.Plan.{Plan}
use Rattle.al_plan.specs.declared.plan.Plan.TheVariants as P
use Rattle.al_plan.specs.Eval.{Bytes, Env}
use Rattle.al_plan.specs.Allows.{Sets, Allows, Faults, ordered, live}
use Rattle.al_plan.specs.Refines.{IsWithin, Fit, NoTwice, Refines, Replaces}

-- a plan that is not ordered allows every permutation of each list that it allows
abbrev pub OrderIsFree : Type 0
OrderIsFree = (p : Plan) → ordered p ≡ false → (passing : Bool) (sets : Sets) (given : List Var) (outer rows moved : List Env) → Allows p passing sets given outer rows → IsPermutation rows moved → Allows p passing sets given outer moved

-- an allowed row has values at the live variables alone
abbrev pub RowsAreWithin : Type 0
RowsAreWithin = (p : Plan) (passing : Bool) (sets : Sets) (given : List Var) (outer rows : List Env) → All (IsWithin given) outer → Allows p passing sets given outer rows → All (IsWithin (live p given)) rows

-- no variable is live twice
abbrev pub LiveOnce : Type 0
LiveOnce = (p : Plan) → Fit p → NoTwice (live p [])

-- reading the checks adds no allowed list
abbrev pub ChecksAddNone : Type 0
ChecksAddNone = (p : Plan) (sets : Sets) (given : List Var) (outer rows : List Env) → Allows p false sets given outer rows → Allows p true sets given outer rows

-- where no name faults, reading the checks takes no allowed list away
abbrev pub ChecksPass : Type 0
ChecksPass = (p : Plan) → Fit p → (sets : Sets) (given : List Var) (outer : List Env) → ((name : Bytes) → Faults p sets given outer name → ⊥) → (rows : List Env) → Allows p true sets given outer rows → Allows p false sets given outer rows

-- the outer rows say nothing: the same is live, the same lists are allowed and the same names fault at any others
pub record IgnoresOuter (p : Plan) : Type 0 where
  pub vars : (given known : List Var) → live p given ≡ live p known
  pub allowed : (passing : Bool) (sets : Sets) (given known : List Var) (outer inner rows : List Env) → Allows p passing sets given outer rows → Allows p passing sets known inner rows
  pub faults : (sets : Sets) (given known : List Var) (outer inner : List Env) (name : Bytes) → Faults p sets given outer name → Faults p sets known inner name

abbrev pub OuterIsIdle : Type 0
OuterIsIdle = (p : Plan) → Fit p → IgnoresOuter p

abbrev pub RefinesItself : Type 0
RefinesItself = (p : Plan) → Fit p → Refines p p

abbrev pub RefinesThrough : Type 0
RefinesThrough = (r q p : Plan) → Refines r q → Refines q p → Refines r p

abbrev pub ReplacesItself : Type 0
ReplacesItself = (p : Plan) → Fit p → Replaces p p

abbrev pub ReplacesThrough : Type 0
ReplacesThrough = (r q p : Plan) → Replaces r q → Replaces q p → Replaces r p

-- an input of an operator that fits may be replaced; nested plans stay as they are
pub record ReplacesUnder : Type 0 where
  pub under_assign : (made : List (Var × Expr)) (q p : Plan) → Fit (P.Assign made p) → Replaces q p → Replaces (P.Assign made q) (P.Assign made p)
  pub under_select : (c : Expr) (q p : Plan) → Fit (P.Select c p) → Replaces q p → Replaces (P.Select c q) (P.Select c p)
  pub under_project : (vars : List Var) (q p : Plan) → Fit (P.Project vars p) → Replaces q p → Replaces (P.Project vars q) (P.Project vars p)
  pub under_unnest : (v : Var) (its : Generator) (q p : Plan) → Fit (P.Unnest v its p) → Replaces q p → Replaces (P.Unnest v its q) (P.Unnest v its p)
  pub under_subplan : (n q p : Plan) → Fit (P.Subplan n p) → Replaces q p → Replaces (P.Subplan n q) (P.Subplan n p)
  pub under_join : (c : Expr) (s q r p : Plan) → Fit (P.Join c q p) → Replaces s q → Replaces r p → Replaces (P.Join c s r) (P.Join c q p)
  pub under_left_join : (c : Expr) (s q r p : Plan) → Fit (P.LeftJoin c q p) → Replaces s q → Replaces r p → Replaces (P.LeftJoin c s r) (P.LeftJoin c q p)
  pub under_group : (keys : List (Var × Var)) (n q p : Plan) → Fit (P.Group keys n p) → Replaces q p → Replaces (P.Group keys n q) (P.Group keys n p)
  pub under_distinct : (q p : Plan) → Fit (P.Distinct p) → Replaces q p → Replaces (P.Distinct q) (P.Distinct p)
  pub under_union : (made ls rs : List Var) (s q r p : Plan) → Fit (P.Union made ls rs q p) → Replaces s q → Replaces r p → Replaces (P.Union made ls rs s r) (P.Union made ls rs q p)
  pub under_aggregate : (made : List (Var × AggCall)) (q p : Plan) → Fit (P.Aggregate made p) → Replaces q p → Replaces (P.Aggregate made q) (P.Aggregate made p)
  pub under_order : (keys : List OrderKey) (q p : Plan) → Fit (P.Order keys p) → Replaces q p → Replaces (P.Order keys q) (P.Order keys p)
  pub under_limit : (n k : ℕ) (q p : Plan) → Fit (P.Limit n k p) → Replaces q p → Replaces (P.Limit n k q) (P.Limit n k p)
  pub under_check : (name : Bytes) (c : Expr) (q p : Plan) → Fit (P.Check name c p) → Replaces q p → Replaces (P.Check name c q) (P.Check name c p)
  pub under_result : (vars : List Var) (q p : Plan) → Fit (P.Result vars p) → Replaces q p → Replaces (P.Result vars q) (P.Result vars p)
