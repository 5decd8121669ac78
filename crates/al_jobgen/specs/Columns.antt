-- Variables as columns: expressions, keys and nested plans over the columns of rows that have the values of these variables, in order.
use Rattle.std.specs.Prelude.{ℕ, suc, Bool, true, false, nat_eq, if◌then◌else◌, List, [], ◌∷◌, ◌++◌, map, filter, Option, Some, None}
use Rattle.std.specs.Cmp.Lexicographic.{pointwise}
use Rattle.al_value.specs.declared.settings.SortKey.{SortKey}
use Rattle.al_func.specs.declared.rex.Rex.{Rex}
use Rattle.al_func.specs.declared.rex.Rex.TheVariants as R
use Rattle.al_agg.specs.declared.agg.Agg.{Agg}
use Rattle.al_agg.specs.declared.agg.Agg.TheVariants as A
use Rattle.al_plan.specs.declared.expr.Var.{Var}
use Rattle.al_plan.specs.declared.expr.Expr.{Expr, fold-Expr}
use Rattle.al_plan.specs.declared.expr.Expr.TheOpen.{Expr-F}
use Rattle.al_plan.specs.declared.expr.Expr.TheOpen as L
use Rattle.al_plan.specs.declared.plan.OrderKey.{OrderKey}
use Rattle.al_plan.specs.declared.plan.AggCall.{AggCall}
use Rattle.al_plan.specs.declared.plan.AggCall.TheVariants as C
use Rattle.al_plan.specs.declared.plan.Generator.{Generator}
use Rattle.al_plan.specs.declared.plan.Generator.TheVariants as G
use Rattle.al_plan.specs.declared.plan.Plan.{Plan, more_of-Plan as Is, end_of-Plan as At}
use Rattle.al_plan.specs.declared.plan.Plan.TheVariants as P
use Rattle.al_plan.specs.Eval.{Bytes}
use Rattle.al_plan.specs.Allows.{live}
use Rattle.al_conj.specs.Conj.{conj, all_of}
use Rattle.al_phys.specs.Properties.{equi_key, equi_keys}
use Rattle.hy_job.specs.declared.nested.AggRex.{AggRex}
use Rattle.hy_job.specs.declared.nested.AggRex.TheVariants as AR
use Rattle.hy_job.specs.declared.nested.GenRex.{GenRex}
use Rattle.hy_job.specs.declared.nested.GenRex.TheVariants as GR
use Rattle.hy_job.specs.declared.nested.NestedPlan.{NestedPlan}
use Rattle.hy_job.specs.declared.nested.NestedPlan.TheVariants as N
use Rattle.hy_job.specs.declared.job.JoinArg.{JoinArg}

-- the column of the first variable of this name
abbrev pub column_of : List Var → Bytes → ℕ
column_of [] q = 0
column_of (v ∷ vars) q = if pointwise nat_eq v.name q then 0 else suc (column_of vars q)

abbrev pub columns_of : List Var → List Var → List ℕ
columns_of vars vs = map (λ v. column_of vars v.name) vs

-- ---- expressions

abbrev pub rex_step : List Var → Expr-F Rex → Rex
rex_step vars (L.Var v) = R.Col (column_of vars v.name)
rex_step vars (L.Lit v) = R.Lit v
rex_step vars (L.Call f args) = R.Call f args

unfoldable pub rex_of : List Var → Expr → Rex
rex_of vars = fold-Expr Rex (rex_step vars)

abbrev pub agg_rex : List Var → AggCall → AggRex
agg_rex vars C.CountAll = AR.CountAll
agg_rex vars (C.Count e) = AR.Count (rex_of vars e)
agg_rex vars (C.Sum e) = AR.Sum (rex_of vars e)
agg_rex vars (C.Min e) = AR.Min (rex_of vars e)
agg_rex vars (C.Max e) = AR.Max (rex_of vars e)

abbrev pub gen_rex : List Var → Generator → GenRex
gen_rex vars (G.Range a b) = GR.Range (rex_of vars a) (rex_of vars b)
gen_rex vars (G.Split t s) = GR.Split (rex_of vars t) (rex_of vars s)

abbrev pub sort_key : List Var → OrderKey → SortKey
sort_key vars k = record { column = column_of vars k.var.name; descending = k.descending }

abbrev pub sort_keys : List Var → List OrderKey → List SortKey
sort_keys vars = map (sort_key vars)

-- which aggregate a call is of
abbrev pub agg_kind : AggCall → Agg
agg_kind C.CountAll = A.CountAll
agg_kind (C.Count e) = A.Count
agg_kind (C.Sum e) = A.Sum
agg_kind (C.Min e) = A.Min
agg_kind (C.Max e) = A.Max

abbrev pub made_rexes : List Var → List (Var × Expr) → List Rex
made_rexes vars = map (λ m. rex_of vars m.1)

abbrev pub made_aggs : List Var → List (Var × AggCall) → List AggRex
made_aggs vars = map (λ m. agg_rex vars m.1)

-- ---- nested plans

-- a nested plan over columns, where `nested` has rows of these variables; operators that stand in no nested plan are given as `nested`
unfoldable pub nested_of : List Var → Plan → NestedPlan
nested_of given (P.Assign' made _ (Is p At)) = N.Assign (made_rexes (live p given) made) (nested_of given p)
nested_of given (P.Select' c _ (Is p At)) = N.Select (rex_of (live p given) c) (nested_of given p)
nested_of given (P.Project' vars _ (Is p At)) = N.Project (columns_of (live p given) vars) (nested_of given p)
nested_of given (P.Unnest' v g _ (Is p At)) = N.Unnest (gen_rex (live p given) g) (nested_of given p)
nested_of given (P.Order' keys _ (Is p At)) = N.Order (sort_keys (live p given) keys) (nested_of given p)
nested_of given (P.Distinct' _ (Is p At)) = N.Distinct (nested_of given p)
nested_of given (P.Limit' n k _ (Is p At)) = N.Limit n k (nested_of given p)
nested_of given (P.Aggregate' made _ (Is p At)) = N.Aggregate (made_aggs (live p given) made) (nested_of given p)
nested_of given _ = N.Nested

-- the aggregates of a nested plan
abbrev pub aggs_of : Plan → List Agg
aggs_of (P.Aggregate' made _ (Is p At)) = map (λ m. agg_kind m.1) made
aggs_of _ = []

-- ---- joins

abbrev pub is_none : {A : Type 0} → Option A → Bool
is_none None = true
is_none (Some x) = false

-- the conjuncts that are no equi keys, as one condition
abbrev pub residual : List Var → List Var → Expr → Expr
residual ls rs c = all_of (filter (λ e. is_none (equi_key ls rs e)) (conj c))

-- by the hash of the keys, and with the rest of the condition; or with the whole condition
abbrev pub join_arg : Bool → Bool → List Var → List Var → Expr → JoinArg
join_arg true outer ls rs c =
    record {
      left = map (λ k. column_of ls k.0.name) (equi_keys ls rs c);
      right = map (λ k. column_of rs k.1.name) (equi_keys ls rs c);
      rest = rex_of (ls ++ rs) (residual ls rs c);
      outer = outer;
    }
join_arg false outer ls rs c = record { left = []; right = []; rest = rex_of (ls ++ rs) c; outer = outer }
