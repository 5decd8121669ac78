-- What each operator is as a layer, and the layer that each plan is.
use Rattle.std.proofs.Common.{◌≡◌, ℕ, List, ap, sym, ◌∙◌}
use Rattle.al_plan.specs.declared.expr.Var.{Var}
use Rattle.al_plan.specs.declared.expr.Expr.{Expr}
use Rattle.al_plan.specs.declared.plan.OrderKey.{OrderKey}
use Rattle.al_plan.specs.declared.plan.AggCall.{AggCall}
use Rattle.al_plan.specs.declared.plan.Generator.{Generator}
use Rattle.al_plan.specs.declared.plan.Plan.{Plan, roll-Plan, out-Plan, out-roll-Plan, ind-Plan}
use Rattle.al_plan.specs.declared.plan.Plan.TheVariants as P
use Rattle.al_plan.specs.declared.plan.Plan.TheOpen as L
use Rattle.al_plan.specs.Eval.{Bytes}

pub out-Scan : (set : Bytes) (vars : List Var) → out-Plan (P.Scan set vars) ≡ L.Scan set vars
out-Scan set vars = ap out-Plan (sym (P.rolls-Scan set vars)) ∙ out-roll-Plan (L.Scan set vars)

pub out-Empty : out-Plan P.Empty ≡ L.Empty
out-Empty = ap out-Plan (sym (P.rolls-Empty)) ∙ out-roll-Plan L.Empty

pub out-Nested : out-Plan P.Nested ≡ L.Nested
out-Nested = ap out-Plan (sym (P.rolls-Nested)) ∙ out-roll-Plan L.Nested

pub out-Assign : (made : List (Var × Expr)) (p : Plan) → out-Plan (P.Assign made p) ≡ L.Assign made p
out-Assign made p = ap out-Plan (sym (P.rolls-Assign made p)) ∙ out-roll-Plan (L.Assign made p)

pub out-Select : (c : Expr) (p : Plan) → out-Plan (P.Select c p) ≡ L.Select c p
out-Select c p = ap out-Plan (sym (P.rolls-Select c p)) ∙ out-roll-Plan (L.Select c p)

pub out-Project : (vars : List Var) (p : Plan) → out-Plan (P.Project vars p) ≡ L.Project vars p
out-Project vars p = ap out-Plan (sym (P.rolls-Project vars p)) ∙ out-roll-Plan (L.Project vars p)

pub out-Unnest : (v : Var) (its : Generator) (p : Plan) → out-Plan (P.Unnest v its p) ≡ L.Unnest v its p
out-Unnest v its p = ap out-Plan (sym (P.rolls-Unnest v its p)) ∙ out-roll-Plan (L.Unnest v its p)

pub out-Subplan : (n : Plan) (p : Plan) → out-Plan (P.Subplan n p) ≡ L.Subplan n p
out-Subplan n p = ap out-Plan (sym (P.rolls-Subplan n p)) ∙ out-roll-Plan (L.Subplan n p)

pub out-Join : (c : Expr) (l : Plan) (r : Plan) → out-Plan (P.Join c l r) ≡ L.Join c l r
out-Join c l r = ap out-Plan (sym (P.rolls-Join c l r)) ∙ out-roll-Plan (L.Join c l r)

pub out-LeftJoin : (c : Expr) (l : Plan) (r : Plan) → out-Plan (P.LeftJoin c l r) ≡ L.LeftJoin c l r
out-LeftJoin c l r = ap out-Plan (sym (P.rolls-LeftJoin c l r)) ∙ out-roll-Plan (L.LeftJoin c l r)

pub out-Group : (keys : List (Var × Var)) (n : Plan) (p : Plan) → out-Plan (P.Group keys n p) ≡ L.Group keys n p
out-Group keys n p = ap out-Plan (sym (P.rolls-Group keys n p)) ∙ out-roll-Plan (L.Group keys n p)

pub out-Distinct : (p : Plan) → out-Plan (P.Distinct p) ≡ L.Distinct p
out-Distinct p = ap out-Plan (sym (P.rolls-Distinct p)) ∙ out-roll-Plan (L.Distinct p)

pub out-Union : (made : List Var) (ls : List Var) (rs : List Var) (l : Plan) (r : Plan) → out-Plan (P.Union made ls rs l r) ≡ L.Union made ls rs l r
out-Union made ls rs l r = ap out-Plan (sym (P.rolls-Union made ls rs l r)) ∙ out-roll-Plan (L.Union made ls rs l r)

pub out-Aggregate : (made : List (Var × AggCall)) (p : Plan) → out-Plan (P.Aggregate made p) ≡ L.Aggregate made p
out-Aggregate made p = ap out-Plan (sym (P.rolls-Aggregate made p)) ∙ out-roll-Plan (L.Aggregate made p)

pub out-Order : (keys : List OrderKey) (p : Plan) → out-Plan (P.Order keys p) ≡ L.Order keys p
out-Order keys p = ap out-Plan (sym (P.rolls-Order keys p)) ∙ out-roll-Plan (L.Order keys p)

pub out-Limit : (n : ℕ) (k : ℕ) (p : Plan) → out-Plan (P.Limit n k p) ≡ L.Limit n k p
out-Limit n k p = ap out-Plan (sym (P.rolls-Limit n k p)) ∙ out-roll-Plan (L.Limit n k p)

pub out-Check : (name : Bytes) (c : Expr) (p : Plan) → out-Plan (P.Check name c p) ≡ L.Check name c p
out-Check name c p = ap out-Plan (sym (P.rolls-Check name c p)) ∙ out-roll-Plan (L.Check name c p)

pub out-Result : (vars : List Var) (p : Plan) → out-Plan (P.Result vars p) ≡ L.Result vars p
out-Result vars p = ap out-Plan (sym (P.rolls-Result vars p)) ∙ out-roll-Plan (L.Result vars p)

pub ruleset operators = (out-Scan, out-Empty, out-Nested, out-Assign, out-Select, out-Project, out-Unnest, out-Subplan, out-Join, out-LeftJoin, out-Group, out-Distinct, out-Union, out-Aggregate, out-Order, out-Limit, out-Check, out-Result)

-- a plan is the one of its layer
pub rolls-out : (p : Plan) → roll-Plan (out-Plan p) ≡ p
rolls-out = ind-Plan (λ p. roll-Plan (out-Plan p) ≡ p) (λ x y e. ap roll-Plan (out-roll-Plan _))
