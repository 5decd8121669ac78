-- The set of the rules on groups, aggregates and distincts, and that it is lawful.
use Rattle.std.specs.Prelude.{List, [], ◌∷◌}
use Rattle.al_rule.specs.declared.names.RuleName.TheVariants as N
use Rattle.al_rule.specs.declared.names.SetName.TheVariants as S
use Rattle.al_rule.specs.Entries.{Entry, listed}
use Rattle.al_rule.specs.Rules.{Rules, IsLawful}
use Rattle.al_rule.proofs.EntryLaws.{lawful_by_one}
use Rattle.al_rules_group.specs.GroupRules as rule
use Rattle.al_rules_group.specs.GroupCounts.{operators, group_measure}
use Rattle.al_rules_group.specs.DistinctSound as distincts
use Rattle.al_rules_group.specs.AggregateSound as aggregates
use Rattle.al_rules_group.specs.GroupSound as groups
use Rattle.al_rules_group.specs.Falls as falls

-- the rules in the order in which they are tried
abbrev pub group_entries : List Entry
group_entries =
    (N.DistinctOverDistinct, rule.DistinctOverDistinct) ∷ (N.DistinctOverGroup, rule.DistinctOverGroup) ∷ (N.DistinctOverAggregate, rule.DistinctOverAggregate)
    ∷ (N.AggregateOverProject, rule.AggregateOverProject) ∷ (N.GroupOverProject, rule.GroupOverProject) ∷ []

abbrev pub group_rules : Rules
group_rules = listed S.Group group_entries

pub group_lawful : IsLawful group_rules group_measure operators
group_lawful = lawful_by_one S.Group group_entries operators
    (distincts.distinct_over_distinct, (distincts.distinct_over_group, (distincts.distinct_over_aggregate, (aggregates.aggregate_over_project, (groups.group_over_project, tt))))) (
      falls.fewer_at rule.DistinctOverDistinct falls.distinct_over_distinct,
      (
        falls.fewer_at rule.DistinctOverGroup falls.distinct_over_group,
        (
          falls.fewer_at rule.DistinctOverAggregate falls.distinct_over_aggregate,
          (falls.fewer_at rule.AggregateOverProject falls.aggregate_over_project, (falls.fewer_at rule.GroupOverProject falls.group_over_project, tt)),
        ),
      ),
    )
