-- The set of the rules of pruning, and what falls where one of them is applied.
use Rattle.std.specs.Prelude.{◌+◌, ◌*◌, ℕ, suc, List, [], ◌∷◌, length}
use Rattle.al_plan.specs.declared.expr.Var.{Var}
use Rattle.al_plan.specs.declared.plan.Plan.{Plan, fold-Plan, map-Plan}
use Rattle.al_plan.specs.declared.plan.Plan.TheOpen.{Plan-F}
use Rattle.al_plan.specs.declared.plan.Plan.TheOpen as L
use Rattle.al_plan.specs.Allows.{live_step}
use Rattle.al_rule.specs.declared.names.RuleName.TheVariants as N
use Rattle.al_rule.specs.declared.names.SetName.TheVariants as S
use Rattle.al_rule.specs.Counts.{total}
use Rattle.al_rule.specs.Entries.{Entry, listed}
use Rattle.al_rule.specs.Rules.{Rules}
use Rattle.al_rules_prune.specs.Prunes as rule

-- the rules in the order in which they are tried
abbrev pub prune_entries : List Entry
prune_entries =
    (N.ResultProject, rule.ResultProject) ∷ (N.ProjectOverProject, rule.ProjectOverProject) ∷ (N.ProjectAll, rule.ProjectAll)
    ∷ (N.AssignUnderProject, rule.AssignUnderProject) ∷ (N.ProjectBelowSelect, rule.ProjectBelowSelect) ∷ (N.ProjectBelowOrder, rule.ProjectBelowOrder)
    ∷ (N.ProjectBelowJoin, rule.ProjectBelowJoin) ∷ (N.GroupProjectInput, rule.GroupProjectInput) ∷ (N.AggregateProjectInput, rule.AggregateProjectInput) ∷ []

abbrev pub prune_rules : Rules
prune_rules = listed S.Prune prune_entries

-- what an operator has of its inputs' numbers; a project has nothing
abbrev pub unless_project : Plan-F ℕ → ℕ
unless_project (L.Project vars n) = 0
unless_project x = total x

-- the live variables of a plan, and the widths of the inputs of its operators but projects, summed
abbrev pub Sized : Type 0
Sized = (List Var → List Var) × ℕ

abbrev pub sized_step : Plan-F Sized → Sized
sized_step x = (live_step (map-Plan Sized (List Var → List Var) (λ s. s.0) x), unless_project (map-Plan Sized ℕ (λ s. length (s.0 [])) x) + total (map-Plan Sized ℕ (λ s. s.1) x))

unfoldable pub sized : Plan → Sized
sized = fold-Plan Sized sized_step

abbrev pub widths : Plan → ℕ
widths p = (sized p).1

-- the projects, and the bindings of assigns
abbrev pub count_step : Plan-F ℕ → ℕ
count_step (L.Project vars n) = suc n
count_step (L.Assign made n) = length made + n
count_step x = total x

unfoldable pub projects_and_bindings : Plan → ℕ
projects_and_bindings = fold-Plan ℕ count_step

abbrev pub prune_measure : Plan → List ℕ
prune_measure p = widths p ∷ projects_and_bindings p ∷ []

-- a project that narrows an input weighs less than a variable of it
abbrev pub prune_weight : Plan → ℕ
prune_weight p = 2 * widths p + projects_and_bindings p
