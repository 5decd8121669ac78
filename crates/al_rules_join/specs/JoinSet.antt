-- The set of these rules, and what falls where one of them is applied.
use Rattle.std.specs.Prelude.{◌+◌, ◌*◌, ℕ, zero, suc, Bool, true, false, not, List, [], ◌∷◌, filter, length, if◌then◌else◌}
use Rattle.al_plan.specs.declared.expr.Expr.{Expr}
use Rattle.al_plan.specs.declared.plan.Plan.{Plan, fold-Plan}
use Rattle.al_plan.specs.declared.plan.Plan.TheOpen.{Plan-F}
use Rattle.al_plan.specs.declared.plan.Plan.TheOpen as L
use Rattle.al_conj.specs.Conj.{conj, is_literal_true}
use Rattle.al_rule.specs.declared.names.RuleName.{RuleName}
use Rattle.al_rule.specs.declared.names.RuleName.TheVariants as N
use Rattle.al_rule.specs.declared.names.SetName.TheVariants as S
use Rattle.al_rule.specs.Places.{Rewriting}
use Rattle.al_rule.specs.Rules.{Rules}
use Rattle.al_rules_join.specs.JoinRules.{left_join_to_join, drop_true, join_cond_left, join_cond_right, left_join_cond_right}

abbrev pub join_name : ℕ → RuleName
join_name zero = N.LeftJoinToJoin
join_name (suc zero) = N.DropTrue
join_name (suc (suc zero)) = N.JoinCondLeft
join_name (suc (suc (suc zero))) = N.JoinCondRight
join_name (suc (suc (suc (suc k)))) = N.LeftJoinCondRight

abbrev pub join_rewrites : ℕ → Rewriting
join_rewrites zero = left_join_to_join
join_rewrites (suc zero) = drop_true
join_rewrites (suc (suc zero)) = join_cond_left
join_rewrites (suc (suc (suc zero))) = join_cond_right
join_rewrites (suc (suc (suc (suc k)))) = left_join_cond_right

-- the rules in the order in which they are tried
abbrev pub join_rules : Rules
join_rules = record { set = S.Join; count = 5; name_of = join_name; rewrites = join_rewrites }

-- a count over the joins and left joins outside nested plans, each by whether it is a left join and by its condition
abbrev pub joins_step : (Bool → Expr → ℕ) → Plan-F ℕ → ℕ
joins_step count (L.Scan set vars) = 0
joins_step count L.Empty = 0
joins_step count L.Nested = 0
joins_step count (L.Assign made p) = p
joins_step count (L.Select c p) = p
joins_step count (L.Project vars p) = p
joins_step count (L.Unnest v g p) = p
joins_step count (L.Subplan n p) = p
joins_step count (L.Join c l r) = count false c + (l + r)
joins_step count (L.LeftJoin c l r) = count true c + (l + r)
joins_step count (L.Group keys n p) = p
joins_step count (L.Distinct p) = p
joins_step count (L.Union made ls rs l r) = l + r
joins_step count (L.Aggregate made p) = p
joins_step count (L.Order keys p) = p
joins_step count (L.Limit n k p) = p
joins_step count (L.Check name c p) = p
joins_step count (L.Result vars p) = p

unfoldable pub over_joins : (Bool → Expr → ℕ) → Plan → ℕ
over_joins count = fold-Plan ℕ (joins_step count)

abbrev pub one_if : Bool → ℕ
one_if b = if b then 1 else 0

abbrev pub left_joins : Plan → ℕ
left_joins = over_joins (λ left c. one_if left)

-- conjuncts other than the literal true
abbrev pub other_conjuncts : Plan → ℕ
other_conjuncts = over_joins (λ left c. length (filter (λ e. not (is_literal_true e)) (conj c)))

abbrev pub all_conjuncts : Plan → ℕ
all_conjuncts = over_joins (λ left c. length (conj c))

abbrev pub join_measure : Plan → List ℕ
join_measure p = left_joins p ∷ other_conjuncts p ∷ all_conjuncts p ∷ []

-- a left join weighs more than the conjunct that takes its place
abbrev pub join_weight : Plan → ℕ
join_weight p = 3 * left_joins p + (other_conjuncts p + all_conjuncts p)
