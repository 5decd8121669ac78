-- That the rules are sound, and their set lawful.
use Rattle.std.specs.Prelude.{◌<◌, ℕ, List}
use Rattle.al_plan.specs.declared.plan.Plan.{Plan}
use Rattle.al_plan.specs.Refines.{Fit, Replaces}
use Rattle.al_rule.specs.Places.{Rewriting, Applied}
use Rattle.al_rule.specs.Rules.{IsLawful, IsLower}
use Rattle.al_rule.proofs.EntryLaws.{each_at}
use Rattle.al_rules_order.specs.OrderRules as rule
use Rattle.al_rules_order.specs.OrderCounts.{order_measure, order_weight}
use Rattle.al_rules_order.specs.OrderSet.{order_entries, order_rules}
use Rattle.al_rules_order.specs.OrderSound as orders
use Rattle.al_rules_order.specs.LimitSound as limits
use Rattle.al_rules_order.specs.Falls as falls

abbrev pub IsSound : Rewriting → Type 0
IsSound R = (p q : Plan) → Fit p → R p q → Replaces q p

pub drop_order : IsSound rule.DropOrder
drop_order = orders.drop_order

pub order_over_order : IsSound rule.OrderOverOrder
order_over_order = orders.order_over_order

pub limit_over_limit : IsSound rule.LimitOverLimit
limit_over_limit = limits.limit_over_limit

pub limit_below_project : IsSound rule.LimitBelowProject
limit_below_project = limits.limit_below_project

pub limit_below_assign : IsSound rule.LimitBelowAssign
limit_below_assign = limits.limit_below_assign

-- the measure and the weight fall wherever the rule is applied
abbrev pub Falls : Rewriting → Type 0
Falls R = (place : List ℕ) (p q : Plan) → Fit p → Applied R place p q → IsLower (order_measure q) (order_measure p) × (order_weight q < order_weight p)

falls_by : (R : Rewriting) → falls.Lightens R → Falls R
falls_by R h place p q fit applied = (falls.falls_at R h place p q fit applied, falls.lightens_at R h place p q fit applied)

each_falls : (k : ℕ) → k < order_rules.count → Falls (order_rules.rewrites k)
each_falls = each_at Falls order_entries (
  falls_by rule.DropOrder falls.drop_order,
  (
    falls_by rule.OrderOverOrder falls.order_over_order,
    (
      falls_by rule.LimitOverLimit falls.limit_over_limit,
      (falls_by rule.LimitBelowProject falls.limit_below_project, (falls_by rule.LimitBelowAssign falls.limit_below_assign, tt)),
    ),
  ),
)

pub order_lawful : IsLawful order_rules order_measure order_weight
order_lawful = record {
  sound = each_at IsSound order_entries (drop_order, (order_over_order, (limit_over_limit, (limit_below_project, (limit_below_assign, tt)))));
  falls = λ k low place p q fit applied. (each_falls k low place p q fit applied).0;
  lightens = λ k low place p q fit applied. (each_falls k low place p q fit applied).1;
}
