-- Small sets of rules that leave no choice, and one that leaves one.
use Rattle.std.specs.Prelude.{◌≡◌, ◌⊎◌}
use Rattle.al_rule.specs.declared.names.RuleName.TheVariants as N
use Rattle.al_rule.specs.declared.names.SetName.TheVariants as S
use Rattle.al_rule.specs.Rules.{Rules}
use Rattle.al_rule.specs.WalkCases.{bare, single, double, falling, choosing}
use Rattle.al_opt.specs.Determined.{Determined}

-- one rule that rewrites a plan to either of two
abbrev pub loose : Rules
loose = record { set = S.Group; count = 1; name_of = λ k. N.DistinctOverDistinct; rewrites = λ k p q. (p ≡ single) × ((q ≡ bare) ⊎ (q ≡ double)) }

abbrev pub OneRuleIsDetermined : Type 0
OneRuleIsDetermined = Determined falling

-- two rules that match one plan leave no choice, since the first one is applied
abbrev pub TwoRulesAreDetermined : Type 0
TwoRulesAreDetermined = Determined choosing

abbrev pub EitherIsDetermined : Type 0
EitherIsDetermined = Determined loose
