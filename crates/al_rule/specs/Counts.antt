-- Numbers of a plan outside its nested plans that rewriting lowers.
use Rattle.std.specs.Prelude.{ℕ, suc, ◌+◌, sum}
use Rattle.al_func.specs.declared.func.Func.TheVariants as F
use Rattle.al_plan.specs.declared.expr.Expr.{Expr, fold-Expr}
use Rattle.al_plan.specs.declared.expr.Expr.TheOpen.{Expr-F}
use Rattle.al_plan.specs.declared.expr.Expr.TheOpen as E
use Rattle.al_plan.specs.declared.plan.Plan.{Plan, fold-Plan, map-Plan}
use Rattle.al_plan.specs.declared.plan.Plan.TheOpen.{Plan-F}
use Rattle.al_plan.specs.declared.plan.Plan.TheOpen as L

-- the sum over an operator's inputs; a nested plan is no input
abbrev pub total : Plan-F ℕ → ℕ
total (L.Scan set vars) = 0
total L.Empty = 0
total L.Nested = 0
total (L.Assign made n) = n
total (L.Select c n) = n
total (L.Project vars n) = n
total (L.Unnest v g n) = n
total (L.Subplan nested n) = n
total (L.Join c l r) = l + r
total (L.LeftJoin c l r) = l + r
total (L.Group keys nested n) = n
total (L.Distinct n) = n
total (L.Union made ls rs l r) = l + r
total (L.Aggregate made n) = n
total (L.Order keys n) = n
total (L.Limit m k n) = n
total (L.Check name c n) = n
total (L.Result vars n) = n

-- the operators other than selects, and how many of them stand below each select, summed
abbrev pub Load : Type 0
Load = ℕ × ℕ

abbrev pub load_step : Plan-F Load → Load
load_step (L.Select c p) = (p.0, p.0 + p.1)
load_step x = (suc (total (map-Plan Load ℕ (λ l. l.0) x)), total (map-Plan Load ℕ (λ l. l.1) x))

unfoldable pub load : Plan → Load
load = fold-Plan Load load_step

abbrev pub below_selects : Plan → ℕ
below_selects p = (load p).1

-- the calls of `and` in an expression
abbrev pub ands_step : Expr-F ℕ → ℕ
ands_step (E.Call F.And args) = suc (sum args)
ands_step (E.Call f args) = sum args
ands_step _ = 0

unfoldable pub ands : Expr → ℕ
ands = fold-Expr ℕ ands_step

-- those in the conditions of selects
abbrev pub select_ands_step : Plan-F ℕ → ℕ
select_ands_step (L.Select c n) = ands c + n
select_ands_step x = total x

unfoldable pub select_ands : Plan → ℕ
select_ands = fold-Plan ℕ select_ands_step
