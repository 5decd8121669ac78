-- The text of a trace: its head, and one line for each step.
use Rattle.std.specs.Prelude.{ℕ, suc, List, [], ◌∷◌, ◌++◌, codes, decimal}
use Rattle.std.specs.List.{flat_map}
use Rattle.al_rule.specs.declared.names.SetName.{SetName}
use Rattle.al_rule.specs.declared.names.SetName.TheVariants as S
use Rattle.al_rule.specs.declared.names.RuleName.{RuleName}
use Rattle.al_rule.specs.declared.names.RuleName.TheVariants as R
use Rattle.al_rule.specs.declared.trace.TraceStep.{TraceStep}

abbrev pub set_word : SetName → List ℕ
set_word S.Split = codes "split"
set_word S.Select = codes "select"
set_word S.Join = codes "join"
set_word S.Order = codes "order"
set_word S.Group = codes "group"
set_word S.Prune = codes "prune"

abbrev pub rule_word : RuleName → List ℕ
rule_word R.SplitAnd = codes "split-and"
rule_word R.SelectTrue = codes "select-true"
rule_word R.SelectBelowAssign = codes "select-below-assign"
rule_word R.SelectBelowProject = codes "select-below-project"
rule_word R.SelectBelowUnnest = codes "select-below-unnest"
rule_word R.SelectBelowSubplan = codes "select-below-subplan"
rule_word R.SelectBelowOrder = codes "select-below-order"
rule_word R.SelectBelowDistinct = codes "select-below-distinct"
rule_word R.SelectBelowJoinLeft = codes "select-below-join-left"
rule_word R.SelectBelowJoinRight = codes "select-below-join-right"
rule_word R.SelectIntoJoin = codes "select-into-join"
rule_word R.SelectBelowLeftJoin = codes "select-below-leftjoin"
rule_word R.LeftJoinToJoin = codes "leftjoin-to-join"
rule_word R.DropTrue = codes "drop-true"
rule_word R.JoinCondLeft = codes "join-cond-left"
rule_word R.JoinCondRight = codes "join-cond-right"
rule_word R.LeftJoinCondRight = codes "leftjoin-cond-right"
rule_word R.DropOrder = codes "drop-order"
rule_word R.OrderOverOrder = codes "order-over-order"
rule_word R.LimitOverLimit = codes "limit-over-limit"
rule_word R.LimitBelowProject = codes "limit-below-project"
rule_word R.LimitBelowAssign = codes "limit-below-assign"
rule_word R.DistinctOverDistinct = codes "distinct-over-distinct"
rule_word R.DistinctOverGroup = codes "distinct-over-group"
rule_word R.DistinctOverAggregate = codes "distinct-over-aggregate"
rule_word R.AggregateOverProject = codes "aggregate-over-project"
rule_word R.GroupOverProject = codes "group-over-project"
rule_word R.ResultProject = codes "result-project"
rule_word R.ProjectOverProject = codes "project-over-project"
rule_word R.ProjectAll = codes "project-all"
rule_word R.AssignUnderProject = codes "assign-under-project"
rule_word R.ProjectBelowSelect = codes "project-below-select"
rule_word R.ProjectBelowOrder = codes "project-below-order"
rule_word R.ProjectBelowJoin = codes "project-below-join"
rule_word R.GroupProjectInput = codes "group-project-input"
rule_word R.AggregateProjectInput = codes "aggregate-project-input"

abbrev pub after_slash : ℕ → List ℕ
after_slash child = codes "/" ++ decimal child

-- a slash and the number of each child on the way; the root has a slash alone
abbrev pub place_word : List ℕ → List ℕ
place_word [] = codes "/"
place_word (child ∷ place) = flat_map after_slash (child ∷ place)

-- a step with its number
abbrev pub step_line : ℕ → TraceStep → List ℕ
step_line number s = decimal number ++ (codes " " ++ (set_word s.set ++ (codes " " ++ (rule_word s.rule ++ (codes " " ++ (place_word s.place.children ++ codes "\n"))))))

-- the steps, numbered from the one behind these
unfoldable pub step_lines : ℕ → List TraceStep → List ℕ
step_lines before [] = []
step_lines before (s ∷ steps) = step_line (suc before) s ++ step_lines (suc before) steps

abbrev pub trace_text : List TraceStep → List ℕ
trace_text steps = codes "trace\n" ++ step_lines 0 steps
