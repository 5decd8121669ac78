-- What nested plans read, and whether they tell rows apart by all their variables.
use Rattle.std.specs.Prelude.{Bool, true, false, ◌||◌, List, [], ◌++◌, map}
use Rattle.std.specs.List.{flat_map}
use Rattle.al_plan.specs.declared.plan.Plan.{Plan, fold-Plan}
use Rattle.al_plan.specs.declared.plan.Plan.TheOpen.{Plan-F}
use Rattle.al_plan.specs.declared.plan.Plan.TheOpen as P
use Rattle.al_plan.specs.Eval.{Bytes}
use Rattle.al_plan.specs.Names.{names, agg_exprs, item_exprs}

-- the names of the variables that a plan's operators use
abbrev pub reads_step : Plan-F (List Bytes) → List Bytes
reads_step (P.Scan set vars) = []
reads_step P.Empty = []
reads_step P.Nested = []
reads_step (P.Assign made p) = p ++ flat_map (λ m. names m.1) made
reads_step (P.Select c p) = p ++ names c
reads_step (P.Project vars p) = p ++ map (λ v. v.name) vars
reads_step (P.Unnest v g p) = p ++ flat_map names (item_exprs g)
reads_step (P.Subplan n p) = p ++ n
reads_step (P.Join c l r) = l ++ (r ++ names c)
reads_step (P.LeftJoin c l r) = l ++ (r ++ names c)
reads_step (P.Group keys n p) = p ++ (n ++ map (λ k. k.1.name) keys)
reads_step (P.Distinct p) = p
reads_step (P.Union made ls rs l r) = l ++ (r ++ (map (λ v. v.name) ls ++ map (λ v. v.name) rs))
reads_step (P.Aggregate made p) = p ++ flat_map (λ m. flat_map names (agg_exprs m.1)) made
reads_step (P.Order keys p) = p ++ map (λ k. k.var.name) keys
reads_step (P.Limit n k p) = p
reads_step (P.Check name c p) = p ++ names c
reads_step (P.Result vars p) = p ++ map (λ v. v.name) vars

unfoldable pub reads : Plan → List Bytes
reads = fold-Plan (List Bytes) reads_step

-- whether a distinct stands in a plan
abbrev pub distinct_step : Plan-F Bool → Bool
distinct_step (P.Scan set vars) = false
distinct_step P.Empty = false
distinct_step P.Nested = false
distinct_step (P.Assign made p) = p
distinct_step (P.Select c p) = p
distinct_step (P.Project vars p) = p
distinct_step (P.Unnest v g p) = p
distinct_step (P.Subplan n p) = n || p
distinct_step (P.Join c l r) = l || r
distinct_step (P.LeftJoin c l r) = l || r
distinct_step (P.Group keys n p) = n || p
distinct_step (P.Distinct p) = true
distinct_step (P.Union made ls rs l r) = l || r
distinct_step (P.Aggregate made p) = p
distinct_step (P.Order keys p) = p
distinct_step (P.Limit n k p) = p
distinct_step (P.Check name c p) = p
distinct_step (P.Result vars p) = p

unfoldable pub has_distinct : Plan → Bool
has_distinct = fold-Plan Bool distinct_step
