-- A number of a plan outside its nested plans that the rules on groups, aggregates and distincts lower.
use Rattle.std.specs.Prelude.{ℕ, suc, List, [], ◌∷◌}
use Rattle.al_plan.specs.declared.plan.Plan.{Plan, fold-Plan}
use Rattle.al_plan.specs.declared.plan.Plan.TheOpen.{Plan-F}
use Rattle.al_rule.specs.Counts.{total}

-- the operators
abbrev pub operators_step : Plan-F ℕ → ℕ
operators_step x = suc (total x)

unfoldable pub operators : Plan → ℕ
operators = fold-Plan ℕ operators_step

abbrev pub group_measure : Plan → List ℕ
group_measure p = operators p ∷ []
