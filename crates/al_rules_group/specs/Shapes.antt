-- What the left sides of the rules are made of.
use Rattle.std.specs.Prelude.{◌≡◌, List}
use Rattle.al_plan.specs.declared.expr.Var.{Var}
use Rattle.al_plan.specs.declared.plan.AggCall.{AggCall}
use Rattle.al_plan.specs.declared.plan.Plan.{Plan}
use Rattle.al_plan.specs.declared.plan.Plan.TheVariants as P

-- the plan is such an operator
abbrev pub IsDistinct : Plan → Type 0
IsDistinct p = (x : Plan) × (p ≡ P.Distinct x)

abbrev pub IsGroup : Plan → Type 0
IsGroup p = (keys : List (Var × Var)) × (n : Plan) × (x : Plan) × (p ≡ P.Group keys n x)

abbrev pub IsAggregate : Plan → Type 0
IsAggregate p = (made : List (Var × AggCall)) × (x : Plan) × (p ≡ P.Aggregate made x)

-- the plan is such an operator over `x`
abbrev pub IsAggregateOf : Plan → Plan → Type 0
IsAggregateOf p x = (made : List (Var × AggCall)) × (p ≡ P.Aggregate made x)

abbrev pub IsProjectOf : Plan → Plan → Type 0
IsProjectOf p x = (vars : List Var) × (p ≡ P.Project vars x)

-- the plan is a group with the nested plan `n` over `x`
abbrev pub IsGroupOf : Plan → Plan → Plan → Type 0
IsGroupOf p n x = (keys : List (Var × Var)) × (p ≡ P.Group keys n x)
