-- Numbers of a plan outside its nested plans that the rules on orders and limits lower.
use Rattle.std.specs.Prelude.{ℕ, suc, ◌+◌, List, [], ◌∷◌}
use Rattle.al_plan.specs.declared.plan.Plan.{Plan, fold-Plan, map-Plan}
use Rattle.al_plan.specs.declared.plan.Plan.TheOpen.{Plan-F}
use Rattle.al_plan.specs.declared.plan.Plan.TheOpen as L
use Rattle.al_rule.specs.Counts.{total}

-- the operators, and how many of them stand below each limit, summed
abbrev pub Weight : Type 0
Weight = ℕ × ℕ

abbrev pub weight_step : Plan-F Weight → Weight
weight_step (L.Limit n k p) = (suc p.0, p.0 + p.1)
weight_step x = (suc (total (map-Plan Weight ℕ (λ w. w.0) x)), total (map-Plan Weight ℕ (λ w. w.1) x))

unfoldable pub weighed : Plan → Weight
weighed = fold-Plan Weight weight_step

abbrev pub operators : Plan → ℕ
operators p = (weighed p).0

abbrev pub below_limits : Plan → ℕ
below_limits p = (weighed p).1

abbrev pub order_measure : Plan → List ℕ
order_measure p = operators p ∷ below_limits p ∷ []

abbrev pub order_weight : Plan → ℕ
order_weight p = operators p + below_limits p
