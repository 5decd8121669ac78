-- What optimising comes to: the sets of rules in their order, each driven until it is stuck.
use Rattle.std.specs.Prelude.{◌≡◌, Bool, true, false, List, [], ◌∷◌, ◌++◌}
use Rattle.al_plan.specs.declared.plan.Plan.{Plan}
use Rattle.al_plan.specs.Refines.{Replaces}
use Rattle.al_rule.specs.declared.names.SetName.{SetName}
use Rattle.al_rule.specs.declared.names.SetName.TheVariants as S
use Rattle.al_rule.specs.declared.trace.TraceStep.{TraceStep}
use Rattle.al_rule.specs.declared.trace.Trace.{Trace}
use Rattle.al_rule.specs.Rules.{Rules, Stuck}
use Rattle.al_rule.specs.Driven.{Steps, ByWalks, Driven}
use Rattle.al_rules_select.specs.Sets.{split_rules, select_rules}
use Rattle.al_rules_join.specs.JoinSet.{join_rules}
use Rattle.al_rules_order.specs.OrderSet.{order_rules}
use Rattle.al_rules_group.specs.GroupSet.{group_rules}
use Rattle.al_rules_prune.specs.PruneSet.{prune_rules}

-- the sets by their names
abbrev pub rules_of : SetName → Rules
rules_of S.Split = split_rules
rules_of S.Select = select_rules
rules_of S.Join = join_rules
rules_of S.Order = order_rules
rules_of S.Group = group_rules
rules_of S.Prune = prune_rules

-- the order in which they are driven
abbrev pub set_order : List SetName
set_order = S.Split ∷ S.Select ∷ S.Join ∷ S.Select ∷ S.Order ∷ S.Group ∷ S.Prune ∷ []

-- which of them are driven by one walk
abbrev pub is_once : SetName → Bool
is_once S.Split = true
is_once _ = false

-- the steps lead from the first plan to the second: each applies a rule of the set that is driven, in the order of its walks, and
-- where a set ends none of its rules matches
abbrev pub LegalTrace : Plan → List TraceStep → Plan → Type 0
LegalTrace p steps q = Driven rules_of is_once set_order steps p q

-- driving one set led from the first plan to the second, and the trace gained its steps
pub record Reaches (once : Bool) (rules : Rules) (p : Plan) (before now : Trace) (q : Plan) : Type 0 where
  pub steps : List TraceStep
  pub gained : now.steps ≡ before.steps ++ steps
  pub leads : Steps rules steps p q
  pub walks : ByWalks once rules steps p q
  pub stuck : Stuck rules q
  pub replaces : Replaces q p
