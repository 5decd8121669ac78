-- The rules of selects, orders, limits, groups and distincts rewrite a plan to one at most.
use Rattle.std.proofs.Common.{◌≡◌, ◌⊎◌, ◌<◌, ◌+◌, ◌-◌, inl, inr, ℕ, ap, sym, subst, ◌∙◌}
use Rattle.std.specs.Prelude.{min}
use Rattle.std.proofs.lemmas.Bool.{cases_order}
use Rattle.al_plan.specs.declared.plan.Plan.{Plan}
use Rattle.al_plan.specs.declared.plan.Plan.TheVariants as P
use Rattle.al_conj.specs.Conj.{both}
use Rattle.al_rule.specs.Places.{with_input}
use Rattle.al_rule.proofs.EntryLaws.{Each}
use Rattle.al_rule.proofs.WalkLaws.{one_input}
use Rattle.al_rules_select.specs.Selects as select
use Rattle.al_rules_select.specs.Sets.{split_entries, select_entries}
use Rattle.al_rules_order.specs.OrderRules as order
use Rattle.al_rules_order.specs.OrderSet.{order_entries}
use Rattle.al_rules_group.specs.GroupRules as group
use Rattle.al_rules_group.specs.GroupSet.{group_entries}
use Rattle.al_opt.specs.Determined.{GivesOne}
use Rattle.al_opt.proofs.Operands.{same2, same3, same4, both_parts, assign_parts, select_parts, project_parts, unnest_parts, subplan_parts, join_parts, left_join_parts, group_parts, distinct_parts, aggregate_parts, order_parts, limit_parts}

-- ---- selects

split_and : GivesOne select.SplitAnd
split_and p q r (a, b, x, at, to) (c, d, y, here, is) =
    let whole = select_parts (both a b) (both c d) x y (sym at ∙ here) in
    let sides = both_parts a b c d whole.0 in
    to ∙ same3 (λ e f z. P.Select e (P.Select f z)) a c b d x y sides.0 sides.1 whole.1 ∙ sym is

select_true : GivesOne select.SelectTrue
select_true p q r (x, at, to) (y, here, is) = to ∙ (select_parts _ _ x y (sym at ∙ here)).1 ∙ sym is

below_assign : GivesOne select.SelectBelowAssign
below_assign p q r (e, made, x, at, k, to) (d, other, y, here, m, is) =
    let whole = select_parts e d (P.Assign made x) (P.Assign other y) (sym at ∙ here) in
    let part = assign_parts made other x y whole.1 in
    to ∙ same3 (λ f a z. P.Assign a (P.Select f z)) e d made other x y whole.0 part.0 part.1 ∙ sym is

below_project : GivesOne select.SelectBelowProject
below_project p q r (e, vars, x, at, to) (d, other, y, here, is) =
    let whole = select_parts e d (P.Project vars x) (P.Project other y) (sym at ∙ here) in
    let part = project_parts vars other x y whole.1 in
    to ∙ same3 (λ f a z. P.Project a (P.Select f z)) e d vars other x y whole.0 part.0 part.1 ∙ sym is

below_unnest : GivesOne select.SelectBelowUnnest
below_unnest p q r (e, v, g, x, at, k, to) (d, w, h, y, here, m, is) =
    let whole = select_parts e d (P.Unnest v g x) (P.Unnest w h y) (sym at ∙ here) in
    let part = unnest_parts v w g h x y whole.1 in
    to ∙ same4 (λ f a b z. P.Unnest a b (P.Select f z)) e d v w g h x y whole.0 part.0 part.1 part.2 ∙ sym is

below_subplan : GivesOne select.SelectBelowSubplan
below_subplan p q r (e, n, x, at, k, to) (d, m, y, here, j, is) =
    let whole = select_parts e d (P.Subplan n x) (P.Subplan m y) (sym at ∙ here) in
    let part = subplan_parts n m x y whole.1 in
    to ∙ same3 (λ f a z. P.Subplan a (P.Select f z)) e d n m x y whole.0 part.0 part.1 ∙ sym is

below_order : GivesOne select.SelectBelowOrder
below_order p q r (e, keys, x, at, to) (d, other, y, here, is) =
    let whole = select_parts e d (P.Order keys x) (P.Order other y) (sym at ∙ here) in
    let part = order_parts keys other x y whole.1 in
    to ∙ same3 (λ f a z. P.Order a (P.Select f z)) e d keys other x y whole.0 part.0 part.1 ∙ sym is

below_distinct : GivesOne select.SelectBelowDistinct
below_distinct p q r (e, x, at, to) (d, y, here, is) =
    let whole = select_parts e d (P.Distinct x) (P.Distinct y) (sym at ∙ here) in
    to ∙ same2 (λ f z. P.Distinct (P.Select f z)) e d x y whole.0 (distinct_parts x y whole.1) ∙ sym is

below_join_left : GivesOne select.SelectBelowJoinLeft
below_join_left p q t (e, c, l, r, at, k, to) (d, f, m, s, here, j, is) =
    let whole = select_parts e d (P.Join c l r) (P.Join f m s) (sym at ∙ here) in
    let part = join_parts c f l m r s whole.1 in
    to ∙ same4 (λ a b x y. P.Join b (P.Select a x) y) e d c f l m r s whole.0 part.0 part.1 part.2 ∙ sym is

below_join_right : GivesOne select.SelectBelowJoinRight
below_join_right p q t (e, c, l, r, at, k, to) (d, f, m, s, here, j, is) =
    let whole = select_parts e d (P.Join c l r) (P.Join f m s) (sym at ∙ here) in
    let part = join_parts c f l m r s whole.1 in
    to ∙ same4 (λ a b x y. P.Join b x (P.Select a y)) e d c f l m r s whole.0 part.0 part.1 part.2 ∙ sym is

into_join : GivesOne select.SelectIntoJoin
into_join p q t (e, c, l, r, at, to) (d, f, m, s, here, is) =
    let whole = select_parts e d (P.Join c l r) (P.Join f m s) (sym at ∙ here) in
    let part = join_parts c f l m r s whole.1 in
    to ∙ same4 (λ a b x y. P.Join (both b a) x y) e d c f l m r s whole.0 part.0 part.1 part.2 ∙ sym is

below_left_join : GivesOne select.SelectBelowLeftJoin
below_left_join p q t (e, c, l, r, at, k, to) (d, f, m, s, here, j, is) =
    let whole = select_parts e d (P.LeftJoin c l r) (P.LeftJoin f m s) (sym at ∙ here) in
    let part = left_join_parts c f l m r s whole.1 in
    to ∙ same4 (λ a b x y. P.LeftJoin b (P.Select a x) y) e d c f l m r s whole.0 part.0 part.1 part.2 ∙ sym is

pub each_split : Each GivesOne split_entries
each_split = (split_and, tt)

pub each_select : Each GivesOne select_entries
each_select = (select_true, (below_assign, (below_project, (below_unnest, (below_subplan, (below_order, (below_distinct, (below_join_left, (below_join_right, (into_join, (below_left_join, tt)))))))))))

-- ---- orders and limits

same_order : (p : Plan) (i : ℕ) (x y : Plan) → order.HasOrder p i x → order.HasOrder p i y → x ≡ y
same_order p i x y (a, there, (keys, at)) (b, here, (other, is)) = (order_parts keys other x y (sym at ∙ one_input p i a b there here ∙ is)).1

drop_order : GivesOne order.DropOrder
drop_order p q r (i, x, f, first, to) (j, y, g, other, is) = by_order (cases_order i j) where
  by_order : (i ≡ j) ⊎ ((i < j) ⊎ (j < i)) → q ≡ r
  by_order (inl same) =
      let part : x ≡ y = same_order p j x y (subst (λ (n : ℕ). order.HasOrder p n x) same first.0) other.0 in
      to ∙ same2 (with_input p) i j x y same part ∙ sym is
  by_order (inr (inl less)) = absurd (other.1 i less x first.0)
  by_order (inr (inr more)) = absurd (first.1 j more y other.0)

order_over_order : GivesOne order.OrderOverOrder
order_over_order p q r (keys, inner, x, at, to) (others, under, y, here, is) =
    let whole = order_parts keys others (P.Order inner x) (P.Order under y) (sym at ∙ here) in
    let part = order_parts inner under x y whole.1 in
    to ∙ same2 P.Order keys others x y whole.0 part.1 ∙ sym is

limit_over_limit : GivesOne order.LimitOverLimit
limit_over_limit p q r (n, k, m, j, x, at, few, to) (a, b, c, d, y, here, low, is) =
    let whole = limit_parts n a k b (P.Limit m j x) (P.Limit c d y) (sym at ∙ here) in
    let part = limit_parts m c j d x y whole.2 in
    to ∙ ap (λ (t : ℕ). P.Limit (min t (m - k)) (k + j) x) whole.0 ∙ same4 (λ s u v z. P.Limit (min a (u - s)) (s + v) z) k b m c j d x y whole.1 part.0 part.1 part.2 ∙ sym is

limit_below_project : GivesOne order.LimitBelowProject
limit_below_project p q r (n, k, vars, x, at, to) (m, j, others, y, here, is) =
    let whole = limit_parts n m k j (P.Project vars x) (P.Project others y) (sym at ∙ here) in
    let part = project_parts vars others x y whole.2 in
    to ∙ same4 (λ a b v z. P.Project v (P.Limit a b z)) n m k j vars others x y whole.0 whole.1 part.0 part.1 ∙ sym is

limit_below_assign : GivesOne order.LimitBelowAssign
limit_below_assign p q r (n, k, made, x, at, to) (m, j, others, y, here, is) =
    let whole = limit_parts n m k j (P.Assign made x) (P.Assign others y) (sym at ∙ here) in
    let part = assign_parts made others x y whole.2 in
    to ∙ same4 (λ a b v z. P.Assign v (P.Limit a b z)) n m k j made others x y whole.0 whole.1 part.0 part.1 ∙ sym is

pub each_order : Each GivesOne order_entries
each_order = (drop_order, (order_over_order, (limit_over_limit, (limit_below_project, (limit_below_assign, tt)))))

-- ---- groups, aggregates and distincts

over_distinct : GivesOne group.DistinctOverDistinct
over_distinct p q r (x, at, to) (y, here, is) =
    let part = distinct_parts (P.Distinct x) (P.Distinct y) (sym at ∙ here) in
    to ∙ part ∙ sym is

over_group : GivesOne group.DistinctOverGroup
over_group p q r (keys, n, x, at, to) (others, m, y, here, is) = to ∙ distinct_parts (P.Group keys n x) (P.Group others m y) (sym at ∙ here) ∙ sym is

over_aggregate : GivesOne group.DistinctOverAggregate
over_aggregate p q r (made, x, at, to) (others, y, here, is) = to ∙ distinct_parts (P.Aggregate made x) (P.Aggregate others y) (sym at ∙ here) ∙ sym is

aggregate_over_project : GivesOne group.AggregateOverProject
aggregate_over_project p q r (made, vars, x, at, to) (others, more, y, here, is) =
    let whole = aggregate_parts made others (P.Project vars x) (P.Project more y) (sym at ∙ here) in
    let part = project_parts vars more x y whole.1 in
    to ∙ same2 P.Aggregate made others x y whole.0 part.1 ∙ sym is

group_over_project : GivesOne group.GroupOverProject
group_over_project p q r (keys, n, vars, x, at, none, to) (others, m, more, y, here, nor, is) =
    let whole = group_parts keys others n m (P.Project vars x) (P.Project more y) (sym at ∙ here) in
    let part = project_parts vars more x y whole.2 in
    to ∙ same3 P.Group keys others n m x y whole.0 whole.1 part.1 ∙ sym is

pub each_group : Each GivesOne group_entries
each_group = (over_distinct, (over_group, (over_aggregate, (aggregate_over_project, (group_over_project, tt)))))
