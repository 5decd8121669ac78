-- The rules of pruning rewrite a plan to one at most.
use Rattle.std.proofs.Common.{◌≡◌, inl, inr, List, ◌++◌, ap, sym, subst, ◌∙◌}
use Rattle.std.specs.Prelude.{map}
use Rattle.al_plan.specs.declared.expr.Var.{Var}
use Rattle.al_plan.specs.declared.expr.Expr.{Expr}
use Rattle.al_plan.specs.declared.plan.Plan.{Plan}
use Rattle.al_plan.specs.declared.plan.Plan.TheVariants as P
use Rattle.al_rule.proofs.EntryLaws.{Each}
use Rattle.al_rules_prune.specs.Prunes as prune
use Rattle.al_rules_prune.specs.Prunes.{narrowed, read_by, read_by_aggregates, used_by, bindings, assigned_over, joined, CutsInput}
use Rattle.al_rules_prune.specs.PruneSet.{prune_entries}
use Rattle.al_opt.specs.Determined.{GivesOne}
use Rattle.al_opt.proofs.Operands.{same2, same3, same4, assign_parts, select_parts, project_parts, joined_parts, group_parts, aggregate_parts, order_parts, result_parts}

result_project : GivesOne prune.ResultProject
result_project p q r (vars, x, at, w, to) (others, y, here, v, is) =
    let part = result_parts vars others x y (sym at ∙ here) in
    to ∙ same2 (λ a z. P.Result a (narrowed a z)) vars others x y part.0 part.1 ∙ sym is

over_project : GivesOne prune.ProjectOverProject
over_project p q r (vars, inner, x, at, to) (others, under, y, here, is) =
    let whole = project_parts vars others (P.Project inner x) (P.Project under y) (sym at ∙ here) in
    let part = project_parts inner under x y whole.1 in
    to ∙ same2 P.Project vars others x y whole.0 part.1 ∙ sym is

project_all : GivesOne prune.ProjectAll
project_all p q r (vars, x, at, same, to) (others, y, here, also, is) = to ∙ (project_parts vars others x y (sym at ∙ here)).1 ∙ sym is

assign_under : GivesOne prune.AssignUnderProject
assign_under p q r (vars, made, x, at, k, to) (others, more, y, here, j, is) =
    let whole = project_parts vars others (P.Assign made x) (P.Assign more y) (sym at ∙ here) in
    let part = assign_parts made more x y whole.1 in
    to ∙ same3 (λ a b z. P.Project a (assigned_over (bindings a b) z)) vars others made more x y whole.0 part.0 part.1 ∙ sym is

below_select : GivesOne prune.ProjectBelowSelect
below_select p q r (vars, e, x, at, k, to) (others, d, y, here, j, is) =
    let whole = project_parts vars others (P.Select e x) (P.Select d y) (sym at ∙ here) in
    let part = select_parts e d x y whole.1 in
    to ∙ same3 (λ a f z. P.Project a (P.Select f (narrowed (a ++ read_by f) z))) vars others e d x y whole.0 part.0 part.1 ∙ sym is

below_order : GivesOne prune.ProjectBelowOrder
below_order p q r (vars, keys, x, at, k, to) (others, more, y, here, j, is) =
    let whole = project_parts vars others (P.Order keys x) (P.Order more y) (sym at ∙ here) in
    let part = order_parts keys more x y whole.1 in
    to ∙ same3 (λ a b z. P.Project a (P.Order b (narrowed (a ++ map (λ k. k.var) b) z))) vars others keys more x y whole.0 part.0 part.1 ∙ sym is

-- of two inputs the same is cut
one_cut : (vars : List Var) (l r x y z w : Plan) → CutsInput vars l r x y → CutsInput vars l r z w → (x ≡ z) × (y ≡ w)
one_cut vars l r x y z w (inl (wide, a, b)) (inl (also, c, d)) = (a ∙ sym c, b ∙ sym d)
one_cut vars l r x y z w (inl (wide, a, b)) (inr (narrow, also, c, d)) = absurd cc
one_cut vars l r x y z w (inr (narrow, wide, a, b)) (inl (also, c, d)) = absurd cc
one_cut vars l r x y z w (inr (narrow, wide, a, b)) (inr (off, also, c, d)) = (a ∙ sym c, b ∙ sym d)

one_cut_of : (vars others : List Var) (l m r s x y z w : Plan) → vars ≡ others → l ≡ m → r ≡ s → CutsInput vars l r x y → CutsInput others m s z w → (x ≡ z) × (y ≡ w)
one_cut_of vars others l m r s x y z w e h k f g =
    one_cut others m s x y z w
    (subst (λ (v : Plan). CutsInput others m v x y) k (subst (λ (v : Plan). CutsInput others v r x y) h (subst (λ (a : List Var). CutsInput a l r x y) e f))) g

below_join : GivesOne prune.ProjectBelowJoin
below_join p q t (vars, left, c, l, r, x, y, at, f, to) (others, outer, d, m, s, z, w, here, g, is) =
    let whole = project_parts vars others (joined left c l r) (joined outer d m s) (sym at ∙ here) in
    let part = joined_parts left outer c d l m r s whole.1 in
    let names : vars ++ read_by c ≡ others ++ read_by d = ap (λ (a : List Var). a ++ read_by c) whole.0 ∙ ap (λ (e : Expr). others ++ read_by e) part.1 in
    let cut = one_cut_of (vars ++ read_by c) (others ++ read_by d) l m r s x y z w names part.2 part.3 f g in
    to ∙ ap (λ (a : List Var). P.Project a (joined left c x y)) whole.0 ∙ same4 (λ b e u v. P.Project others (joined b e u v)) left outer c d x z y w part.0 part.1 cut.0 cut.1 ∙ sym is

group_input : GivesOne prune.GroupProjectInput
group_input p q r (keys, n, x, at, k, to) (others, m, y, here, j, is) =
    let part = group_parts keys others n m x y (sym at ∙ here) in
    to ∙ same3 (λ a b z. P.Group a b (narrowed (map (λ v. v.1) a ++ used_by b z) z)) keys others n m x y part.0 part.1 part.2 ∙ sym is

aggregate_input : GivesOne prune.AggregateProjectInput
aggregate_input p q r (made, x, at, k, to) (others, y, here, j, is) =
    let part = aggregate_parts made others x y (sym at ∙ here) in
    to ∙ same2 (λ a z. P.Aggregate a (narrowed (read_by_aggregates a) z)) made others x y part.0 part.1 ∙ sym is

pub each_prune : Each GivesOne prune_entries
each_prune = (result_project, (over_project, (project_all, (assign_under, (below_select, (below_order, (below_join, (group_input, (aggregate_input, tt)))))))))
