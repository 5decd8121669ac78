-- The rules on groups, aggregates and distincts: what each rewrites, under which condition, and to what.
use Rattle.std.specs.Prelude.{◌≡◌, Bool, true, false, ◌||◌, List}
use Rattle.al_plan.specs.declared.expr.Var.{Var}
use Rattle.al_plan.specs.declared.plan.AggCall.{AggCall}
use Rattle.al_plan.specs.declared.plan.Plan.{Plan, fold-Plan}
use Rattle.al_plan.specs.declared.plan.Plan.TheOpen.{Plan-F}
use Rattle.al_plan.specs.declared.plan.Plan.TheOpen as L
use Rattle.al_plan.specs.declared.plan.Plan.TheVariants as P
use Rattle.al_rule.specs.Places.{Rewriting}

-- whether a plan has a distinct, in its nested plans too
abbrev pub distinct_step : Plan-F Bool → Bool
distinct_step (L.Distinct p) = true
distinct_step (L.Scan set vars) = false
distinct_step L.Empty = false
distinct_step L.Nested = false
distinct_step (L.Assign made p) = p
distinct_step (L.Select c p) = p
distinct_step (L.Project vars p) = p
distinct_step (L.Unnest v g p) = p
distinct_step (L.Subplan n p) = n || p
distinct_step (L.Join c l r) = l || r
distinct_step (L.LeftJoin c l r) = l || r
distinct_step (L.Group keys n p) = n || p
distinct_step (L.Union made ls rs l r) = l || r
distinct_step (L.Aggregate made p) = p
distinct_step (L.Order keys p) = p
distinct_step (L.Limit n k p) = p
distinct_step (L.Check name c p) = p
distinct_step (L.Result vars p) = p

unfoldable pub has_distinct : Plan → Bool
has_distinct = fold-Plan Bool distinct_step

-- a distinct goes where no row stands twice
abbrev pub DistinctOverDistinct : Rewriting
DistinctOverDistinct p q = (x : Plan) × (p ≡ P.Distinct (P.Distinct x)) × (q ≡ P.Distinct x)

abbrev pub DistinctOverGroup : Rewriting
DistinctOverGroup p q = (keys : List (Var × Var)) × (n : Plan) × (x : Plan) × (p ≡ P.Distinct (P.Group keys n x)) × (q ≡ P.Group keys n x)

abbrev pub DistinctOverAggregate : Rewriting
DistinctOverAggregate p q = (made : List (Var × AggCall)) × (x : Plan) × (p ≡ P.Distinct (P.Aggregate made x)) × (q ≡ P.Aggregate made x)

-- a project goes from below what reads its variables alone
abbrev pub AggregateOverProject : Rewriting
AggregateOverProject p q = (made : List (Var × AggCall)) × (vars : List Var) × (x : Plan) × (p ≡ P.Aggregate made (P.Project vars x)) × (q ≡ P.Aggregate made x)

-- a distinct in the nested plan would see the variables that the project cuts off
abbrev pub GroupOverProject : Rewriting
GroupOverProject p q = (keys : List (Var × Var)) × (n : Plan) × (vars : List Var) × (x : Plan) × (p ≡ P.Group keys n (P.Project vars x)) × (has_distinct n ≡ false) × (q ≡ P.Group keys n x)
