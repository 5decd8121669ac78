-- The rules on orders and limits: what each rewrites, under which condition, and to what.
use Rattle.std.specs.Prelude.{◌≡◌, ◌<◌, ◌≤◌, ℕ, ◌+◌, ◌-◌, ◌^◌, min, Bool, true, false, List, Some}
use Rattle.al_plan.specs.declared.expr.Var.{Var}
use Rattle.al_plan.specs.declared.expr.Expr.{Expr}
use Rattle.al_plan.specs.declared.plan.OrderKey.{OrderKey}
use Rattle.al_plan.specs.declared.plan.Plan.{Plan, out-Plan}
use Rattle.al_plan.specs.declared.plan.Plan.TheOpen.{Plan-F}
use Rattle.al_plan.specs.declared.plan.Plan.TheOpen as L
use Rattle.al_plan.specs.declared.plan.Plan.TheVariants as P
use Rattle.al_rule.specs.Places.{Rewriting, input, with_input}

-- an operator that gives the same for its input's rows in any order
abbrev pub forgets_step : Plan-F Plan → Bool
forgets_step (L.Join c l r) = true
forgets_step (L.LeftJoin c l r) = true
forgets_step (L.Group keys n p) = true
forgets_step (L.Distinct p) = true
forgets_step (L.Union made ls rs l r) = true
forgets_step (L.Aggregate made p) = true
forgets_step _ = false

unfoldable pub forgets_order : Plan → Bool
forgets_order p = forgets_step (out-Plan p)

-- the plan is an order of the rows of `x`
abbrev pub IsOrder : Plan → Plan → Type 0
IsOrder p x = (keys : List OrderKey) × (p ≡ P.Order keys x)

-- the operator's input of this number is an order of the rows of `x`
abbrev pub HasOrder : Plan → ℕ → Plan → Type 0
HasOrder p i x = (y : Plan) × (input p i ≡ Some y) × IsOrder y x

-- the first of the operator's inputs that is an order has this number, and orders the rows of `x`
abbrev pub IsFirstOrder : Plan → ℕ → Plan → Type 0
IsFirstOrder p i x = HasOrder p i x × ((j : ℕ) → j < i → (y : Plan) → HasOrder p j y → ⊥)

-- an order goes from below an operator that forgets it
abbrev pub DropOrder : Rewriting
DropOrder p q = (i : ℕ) × (x : Plan) × (forgets_order p ≡ true) × IsFirstOrder p i x × (q ≡ with_input p i x)

-- the plan is two orders of the rows of `x`
abbrev pub AreOrders : Plan → Plan → Type 0
AreOrders p x = (keys : List OrderKey) × (inner : List OrderKey) × (p ≡ P.Order keys (P.Order inner x))

-- an order goes from below an order
abbrev pub OrderOverOrder : Rewriting
OrderOverOrder p q = (keys : List OrderKey) × (inner : List OrderKey) × (x : Plan) × (p ≡ P.Order keys (P.Order inner x)) × (q ≡ P.Order keys x)

-- the greatest number that a limit may have in a plan's text
abbrev pub most : ℕ
most = 2 ^ 63 - 1

-- two limits become one
abbrev pub LimitOverLimit : Rewriting
LimitOverLimit p q = (n : ℕ) × (k : ℕ) × (m : ℕ) × (j : ℕ) × (x : Plan) × (p ≡ P.Limit n k (P.Limit m j x)) × (k + j ≤ most) × (q ≡ P.Limit (min n (m - k)) (k + j) x)

-- the plan is a project, or an assign, of the rows of `x`
abbrev pub IsProject : Plan → Plan → Type 0
IsProject p x = (vars : List Var) × (p ≡ P.Project vars x)

abbrev pub IsAssign : Plan → Plan → Type 0
IsAssign p x = (made : List (Var × Expr)) × (p ≡ P.Assign made x)

-- a limit goes below an operator that gives a row for each row
abbrev pub LimitBelowProject : Rewriting
LimitBelowProject p q = (n : ℕ) × (k : ℕ) × (vars : List Var) × (x : Plan) × (p ≡ P.Limit n k (P.Project vars x)) × (q ≡ P.Project vars (P.Limit n k x))

abbrev pub LimitBelowAssign : Rewriting
LimitBelowAssign p q = (n : ℕ) × (k : ℕ) × (made : List (Var × Expr)) × (x : Plan) × (p ≡ P.Limit n k (P.Assign made x)) × (q ≡ P.Assign made (P.Limit n k x))
