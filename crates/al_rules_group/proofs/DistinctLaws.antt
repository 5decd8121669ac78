-- Which operators have a distinct.
use Rattle.std.proofs.Common.{◌≡◌, ◌||◌, ℕ, Bool, true, false, List, ap, sym, ◌∙◌}
use Rattle.al_plan.specs.declared.expr.Var.{Var}
use Rattle.al_plan.specs.declared.expr.Expr.{Expr}
use Rattle.al_plan.specs.declared.plan.AggCall.{AggCall}
use Rattle.al_plan.specs.declared.plan.Generator.{Generator}
use Rattle.al_plan.specs.declared.plan.OrderKey.{OrderKey}
use Rattle.al_plan.specs.declared.plan.Plan.{Plan, map-Plan, roll-Plan, fold-roll-Plan}
use Rattle.al_plan.specs.declared.plan.Plan.TheVariants as P
use Rattle.al_plan.specs.declared.plan.Plan.TheOpen as L
use Rattle.al_plan.specs.Eval.{Bytes}
use Rattle.al_rules_group.specs.GroupRules.{has_distinct, distinct_step}

distinct-roll : (x : L.Plan-F Plan) → has_distinct (roll-Plan x) ≡ distinct_step (map-Plan Plan Bool has_distinct x)
unfolding has_distinct
distinct-roll x = fold-roll-Plan Bool distinct_step x

pub distinct-Scan : (set : Bytes) (vars : List Var) → has_distinct (P.Scan set vars) ≡ false
distinct-Scan set vars = ap has_distinct (sym (P.rolls-Scan set vars)) ∙ distinct-roll (L.Scan set vars)

pub distinct-Empty : has_distinct P.Empty ≡ false
distinct-Empty = ap has_distinct (sym P.rolls-Empty) ∙ distinct-roll L.Empty

pub distinct-Nested : has_distinct P.Nested ≡ false
distinct-Nested = ap has_distinct (sym P.rolls-Nested) ∙ distinct-roll L.Nested

pub distinct-Assign : (made : List (Var × Expr)) (p : Plan) → has_distinct (P.Assign made p) ≡ has_distinct p
distinct-Assign made p = ap has_distinct (sym (P.rolls-Assign made p)) ∙ distinct-roll (L.Assign made p)

pub distinct-Select : (c : Expr) (p : Plan) → has_distinct (P.Select c p) ≡ has_distinct p
distinct-Select c p = ap has_distinct (sym (P.rolls-Select c p)) ∙ distinct-roll (L.Select c p)

pub distinct-Project : (vars : List Var) (p : Plan) → has_distinct (P.Project vars p) ≡ has_distinct p
distinct-Project vars p = ap has_distinct (sym (P.rolls-Project vars p)) ∙ distinct-roll (L.Project vars p)

pub distinct-Unnest : (v : Var) (its : Generator) (p : Plan) → has_distinct (P.Unnest v its p) ≡ has_distinct p
distinct-Unnest v its p = ap has_distinct (sym (P.rolls-Unnest v its p)) ∙ distinct-roll (L.Unnest v its p)

pub distinct-Subplan : (n p : Plan) → has_distinct (P.Subplan n p) ≡ (has_distinct n || has_distinct p)
distinct-Subplan n p = ap has_distinct (sym (P.rolls-Subplan n p)) ∙ distinct-roll (L.Subplan n p)

pub distinct-Join : (c : Expr) (l r : Plan) → has_distinct (P.Join c l r) ≡ (has_distinct l || has_distinct r)
distinct-Join c l r = ap has_distinct (sym (P.rolls-Join c l r)) ∙ distinct-roll (L.Join c l r)

pub distinct-LeftJoin : (c : Expr) (l r : Plan) → has_distinct (P.LeftJoin c l r) ≡ (has_distinct l || has_distinct r)
distinct-LeftJoin c l r = ap has_distinct (sym (P.rolls-LeftJoin c l r)) ∙ distinct-roll (L.LeftJoin c l r)

pub distinct-Group : (keys : List (Var × Var)) (n p : Plan) → has_distinct (P.Group keys n p) ≡ (has_distinct n || has_distinct p)
distinct-Group keys n p = ap has_distinct (sym (P.rolls-Group keys n p)) ∙ distinct-roll (L.Group keys n p)

pub distinct-Distinct : (p : Plan) → has_distinct (P.Distinct p) ≡ true
distinct-Distinct p = ap has_distinct (sym (P.rolls-Distinct p)) ∙ distinct-roll (L.Distinct p)

pub distinct-Union : (made ls rs : List Var) (l r : Plan) → has_distinct (P.Union made ls rs l r) ≡ (has_distinct l || has_distinct r)
distinct-Union made ls rs l r = ap has_distinct (sym (P.rolls-Union made ls rs l r)) ∙ distinct-roll (L.Union made ls rs l r)

pub distinct-Aggregate : (made : List (Var × AggCall)) (p : Plan) → has_distinct (P.Aggregate made p) ≡ has_distinct p
distinct-Aggregate made p = ap has_distinct (sym (P.rolls-Aggregate made p)) ∙ distinct-roll (L.Aggregate made p)

pub distinct-Order : (keys : List OrderKey) (p : Plan) → has_distinct (P.Order keys p) ≡ has_distinct p
distinct-Order keys p = ap has_distinct (sym (P.rolls-Order keys p)) ∙ distinct-roll (L.Order keys p)

pub distinct-Limit : (n k : ℕ) (p : Plan) → has_distinct (P.Limit n k p) ≡ has_distinct p
distinct-Limit n k p = ap has_distinct (sym (P.rolls-Limit n k p)) ∙ distinct-roll (L.Limit n k p)

pub distinct-Check : (name : Bytes) (c : Expr) (p : Plan) → has_distinct (P.Check name c p) ≡ has_distinct p
distinct-Check name c p = ap has_distinct (sym (P.rolls-Check name c p)) ∙ distinct-roll (L.Check name c p)

pub distinct-Result : (vars : List Var) (p : Plan) → has_distinct (P.Result vars p) ≡ has_distinct p
distinct-Result vars p = ap has_distinct (sym (P.rolls-Result vars p)) ∙ distinct-roll (L.Result vars p)

pub ruleset distinct_laws = (distinct-Scan, distinct-Empty, distinct-Nested, distinct-Assign, distinct-Select, distinct-Project, distinct-Unnest, distinct-Subplan, distinct-Join, distinct-LeftJoin, distinct-Group, distinct-Distinct, distinct-Union, distinct-Aggregate, distinct-Order, distinct-Limit, distinct-Check, distinct-Result)
