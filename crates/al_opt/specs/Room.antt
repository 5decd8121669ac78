-- How many operators and conjuncts a plan has outside its nested plans, and what is left of room beside them.
use Rattle.std.specs.Prelude.{◌≡◌, ◌<◌, ◌+◌, ℕ, suc, length, Option, Some, None}
use Rattle.al_plan.specs.declared.plan.Plan.{Plan, fold-Plan}
use Rattle.al_plan.specs.declared.plan.Plan.TheOpen.{Plan-F}
use Rattle.al_plan.specs.declared.plan.Plan.TheOpen as L
use Rattle.al_conj.specs.Conj.{conj}
use Rattle.al_rule.specs.Counts.{total}

-- the conjuncts of an operator's condition; that of a check stays whole
abbrev pub conjuncts_in : {S : Type 0} → Plan-F S → ℕ
conjuncts_in (L.Select c p) = length (conj c)
conjuncts_in (L.Join c l r) = length (conj c)
conjuncts_in (L.LeftJoin c l r) = length (conj c)
conjuncts_in _ = 0

-- an operator and its conjuncts, beside what its inputs have
abbrev pub parts_step : Plan-F ℕ → ℕ
parts_step x = suc (conjuncts_in x) + total x

-- the operators and conjuncts of a plan
unfoldable pub parts : Plan → ℕ
parts = fold-Plan ℕ parts_step

-- those of an input, where there is one
abbrev pub parts_at : Option Plan → ℕ
parts_at None = 0
parts_at (Some p) = parts p

-- what is left of this much room beside so many parts; none where they are more
abbrev pub Leaves : ℕ → ℕ → Option ℕ → Type 0
Leaves room n (Some left) = room ≡ n + left
Leaves room n None = room < n
