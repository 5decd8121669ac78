-- The operators become fewer wherever a rule is applied.
use Rattle.std.proofs.Common.{◌≡◌, ◌<◌, ℕ, List, ap, sym, subst, ◌∙◌, arith}
use Rattle.al_plan.specs.declared.expr.Var.{Var}
use Rattle.al_plan.specs.declared.plan.Plan.{Plan, map-Plan, roll-Plan, fold-roll-Plan}
use Rattle.al_plan.specs.declared.plan.Plan.TheVariants as P
use Rattle.al_plan.specs.declared.plan.Plan.TheOpen as L
use Rattle.al_plan.specs.Refines.{Fit}
use Rattle.al_rule.specs.Places.{Rewriting, Applied}
use Rattle.al_rule.proofs.PlaceLaws.{Around, around, layer, rolls_around, applied_goes_up, assign, select, project, unnest, subplan, join_left, join_right, left_join_left, left_join_right, group, distinct, union_left, union_right, aggregate, order, limit, check, result}
use Rattle.al_rules_group.specs.GroupRules as rule
use Rattle.al_rules_group.specs.GroupCounts.{operators, operators_step}

operators-roll : (x : L.Plan-F Plan) → operators (roll-Plan x) ≡ operators_step (map-Plan Plan ℕ operators x)
unfolding operators
operators-roll x = fold-roll-Plan ℕ operators_step x

operators-around : (a : Around) (p : Plan) → operators (around a p) ≡ operators_step (map-Plan Plan ℕ operators (layer a p))
operators-around a p = ap operators (sym (rolls_around a p)) ∙ operators-roll (layer a p)

step_fewer : (a : Around) (q p : Plan) → operators q < operators p → operators_step (map-Plan Plan ℕ operators (layer a q)) < operators_step (map-Plan Plan ℕ operators (layer a p))
step_fewer (assign made) q p h = omega (arith, h)
step_fewer (select c) q p h = omega (arith, h)
step_fewer (project vars) q p h = omega (arith, h)
step_fewer (unnest v its) q p h = omega (arith, h)
step_fewer (subplan n) q p h = omega (arith, h)
step_fewer (join_left c r) q p h = omega (arith, h)
step_fewer (join_right c l) q p h = omega (arith, h)
step_fewer (left_join_left c r) q p h = omega (arith, h)
step_fewer (left_join_right c l) q p h = omega (arith, h)
step_fewer (group keys n) q p h = omega (arith, h)
step_fewer distinct q p h = omega (arith, h)
step_fewer (union_left made ls rs r) q p h = omega (arith, h)
step_fewer (union_right made ls rs l) q p h = omega (arith, h)
step_fewer (aggregate made) q p h = omega (arith, h)
step_fewer (order keys) q p h = omega (arith, h)
step_fewer (limit n k) q p h = omega (arith, h)
step_fewer (check name c) q p h = omega (arith, h)
step_fewer (result vars) q p h = omega (arith, h)

fewer_around : (a : Around) (q p : Plan) → operators q < operators p → operators (around a q) < operators (around a p)
fewer_around a q p h =
    subst (λ n. n < operators (around a p)) (sym (operators-around a q)) (subst (λ n. operators_step (map-Plan Plan ℕ operators (layer a q)) < n) (sym (operators-around a p)) (step_fewer a q p h))

abbrev pub Lessens : Rewriting → Type 0
Lessens R = (p q : Plan) → R p q → operators q < operators p

pub fewer_at : (R : Rewriting) → Lessens R → (place : List ℕ) (p q : Plan) → Fit p → Applied R place p q → operators q < operators p
fewer_at R here place p q f h = applied_goes_up R (λ y x. operators y < operators x) (λ x y fx k. here x y k) (λ a x y fa k. fewer_around a y x k) place p q f h

same_sides : (p q x y : Plan) → p ≡ x → q ≡ y → operators y < operators x → operators q < operators p
same_sides p q x y at to h = subst (λ (z : Plan). operators z < operators p) (sym to) (subst (λ (z : Plan). operators y < operators z) (sym at) h)

fewer_than_distinct : (p : Plan) → operators p < operators (P.Distinct p)
fewer_than_distinct p = subst (λ n. operators p < n) (sym (operators-around distinct p)) (omega arith)

fewer_than_project : (vars : List Var) (p : Plan) → operators p < operators (P.Project vars p)
fewer_than_project vars p = subst (λ n. operators p < n) (sym (operators-around (project vars) p)) (omega arith)

pub distinct_over_distinct : Lessens rule.DistinctOverDistinct
distinct_over_distinct p q (x, at, to) = same_sides p q (P.Distinct (P.Distinct x)) (P.Distinct x) at to (fewer_than_distinct (P.Distinct x))

pub distinct_over_group : Lessens rule.DistinctOverGroup
distinct_over_group p q (keys, n, x, at, to) = same_sides p q (P.Distinct (P.Group keys n x)) (P.Group keys n x) at to (fewer_than_distinct (P.Group keys n x))

pub distinct_over_aggregate : Lessens rule.DistinctOverAggregate
distinct_over_aggregate p q (made, x, at, to) = same_sides p q (P.Distinct (P.Aggregate made x)) (P.Aggregate made x) at to (fewer_than_distinct (P.Aggregate made x))

pub aggregate_over_project : Lessens rule.AggregateOverProject
aggregate_over_project p q (made, vars, x, at, to) = same_sides p q (P.Aggregate made (P.Project vars x)) (P.Aggregate made x) at to (fewer_around (aggregate made) x (P.Project vars x) (fewer_than_project vars x))

pub group_over_project : Lessens rule.GroupOverProject
group_over_project p q (keys, n, vars, x, at, plain, to) = same_sides p q (P.Group keys n (P.Project vars x)) (P.Group keys n x) at to (fewer_around (group keys n) x (P.Project vars x) (fewer_than_project vars x))
