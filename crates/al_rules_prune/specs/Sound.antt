-- The rules of pruning are sound: their right sides may stand in the place of their left sides.
use Rattle.std.proofs.Common.{◌≡◌, ◌++◌, map, sym, subst}
use Rattle.al_plan.specs.declared.plan.Plan.{Plan}
use Rattle.al_plan.specs.declared.plan.Plan.TheVariants as P
use Rattle.al_plan.specs.Refines.{Fit, Replaces}
use Rattle.al_rule.proofs.EntryLaws.{IsSound}
use Rattle.al_rules_prune.specs.Prunes as rule
use Rattle.al_rules_prune.specs.Prunes.{narrowed, read_by, read_by_aggregates, used_by, bindings, assigned_over, joined}
use Rattle.al_rules_prune.specs.Chained as chained
use Rattle.al_rules_prune.specs.ProjectAll as all
use Rattle.al_rules_prune.specs.CutInputs as cuts
use Rattle.al_rules_prune.specs.JoinCuts as joins
use Rattle.al_rules_prune.specs.GroupCut as groups

-- what stands for the sides of a rewriting stands for the plans that are these sides
in_place : (p q x y : Plan) → p ≡ x → q ≡ y → Fit p → (Fit x → Replaces y x) → Replaces q p
in_place p q x y e f fit h = subst (λ (z : Plan). Replaces z p) (sym f) (subst (λ (z : Plan). Replaces y z) (sym e) (h (subst Fit e fit)))

pub result_project : IsSound rule.ResultProject
result_project p q fit (vars, x, at, is_wide, to) = in_place p q (P.Result vars x) (P.Result vars (narrowed vars x)) at to fit (cuts.result_project vars x)

pub project_over_project : IsSound rule.ProjectOverProject
project_over_project p q fit (vars, inner, x, at, to) = in_place p q (P.Project vars (P.Project inner x)) (P.Project vars x) at to fit (chained.project_over_project vars inner x)

pub project_all : IsSound rule.ProjectAll
project_all p q fit (vars, x, at, same, to) = in_place p q (P.Project vars x) x at to fit (λ f. all.project_all vars x f same)

pub assign_under_project : IsSound rule.AssignUnderProject
assign_under_project p q fit (vars, made, x, at, some, to) = in_place p q (P.Project vars (P.Assign made x)) (P.Project vars (assigned_over (bindings vars made) x)) at to fit (chained.assign_under_project vars made x)

pub project_below_select : IsSound rule.ProjectBelowSelect
project_below_select p q fit (vars, e, x, at, is_wide, to) = in_place p q (P.Project vars (P.Select e x)) (P.Project vars (P.Select e (narrowed (vars ++ read_by e) x))) at to fit (chained.project_below_select vars e x)

pub project_below_order : IsSound rule.ProjectBelowOrder
project_below_order p q fit (vars, keys, x, at, is_wide, to) = in_place p q (P.Project vars (P.Order keys x)) (P.Project vars (P.Order keys (narrowed (vars ++ map (λ k. k.var) keys) x))) at to fit (cuts.project_below_order vars keys x)

pub project_below_join : IsSound rule.ProjectBelowJoin
project_below_join p q fit (vars, left, c, l, r, x, y, at, cut, to) = in_place p q (P.Project vars (joined left c l r)) (P.Project vars (joined left c x y)) at to fit (joins.project_below_join left vars c l r x y cut)

pub group_project_input : IsSound rule.GroupProjectInput
group_project_input p q fit (keys, n, x, at, is_wide, to) = in_place p q (P.Group keys n x) (P.Group keys n (narrowed (map (λ k. k.1) keys ++ used_by n x) x)) at to fit (groups.group_project keys n x is_wide)

pub aggregate_project_input : IsSound rule.AggregateProjectInput
aggregate_project_input p q fit (made, x, at, is_wide, to) = in_place p q (P.Aggregate made x) (P.Aggregate made (narrowed (read_by_aggregates made) x)) at to fit (cuts.aggregate_project made x)
