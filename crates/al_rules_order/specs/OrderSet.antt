-- The set of the rules on orders and limits.
use Rattle.std.specs.Prelude.{List, [], ◌∷◌}
use Rattle.al_rule.specs.declared.names.RuleName.TheVariants as N
use Rattle.al_rule.specs.declared.names.SetName.TheVariants as S
use Rattle.al_rule.specs.Entries.{Entry, listed}
use Rattle.al_rule.specs.Rules.{Rules}
use Rattle.al_rules_order.specs.OrderRules as rule

-- the rules in the order in which they are tried
abbrev pub order_entries : List Entry
order_entries =
    (N.DropOrder, rule.DropOrder) ∷ (N.OrderOverOrder, rule.OrderOverOrder) ∷ (N.LimitOverLimit, rule.LimitOverLimit)
    ∷ (N.LimitBelowProject, rule.LimitBelowProject) ∷ (N.LimitBelowAssign, rule.LimitBelowAssign) ∷ []

abbrev pub order_rules : Rules
order_rules = listed S.Order order_entries
