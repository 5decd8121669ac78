-- What the states of a group have seen of the rows that were added to it.
use Rattle.std.specs.Prelude.{◌≡◌, ◌<◌, ℕ, true, Option, Some, None, List, []}
use Rattle.std.specs.Coded.{Coded-set, coded_bool, ×_prop, Unit-prop, le_prop}
use Rattle.std.specs.List.{AllByRecursion-prop}
use Rattle.al_agg.specs.declared.part.Part.{Part}
use Rattle.al_func.specs.declared.rex.Rex.{Rex}
use Rattle.al_func.specs.Rex.{IsSound, is_sound}
use Rattle.hy_job.specs.declared.nested.AggRex.{AggRex}
use Rattle.hy_job.specs.declared.nested.NestedPlan.{NestedPlan, more_of-NestedPlan as Is, end_of-NestedPlan as At}
use Rattle.hy_job.specs.declared.nested.NestedPlan.TheVariants.{Nested, Assign', Select', Project', Unnest', Order', Distinct', Limit', Aggregate'}
use Rattle.hy_job.specs.Columns.{Row}
use Rattle.hy_job.specs.Nested.{chain_rows, is_row_wise, n_width, root_aggs}
use Rattle.hy_job.specs.Sound.{AreSound, NSound, agg_exprs, item_exprs}
use Rattle.hy_job.specs.States.{AreStates}

-- the aggregates of a group; different rows have none
abbrev pub aggs_of : Option NestedPlan → List AggRex
aggs_of (Some n) = root_aggs n
aggs_of None = []

-- the rows over which a row-wise plan takes its aggregates
abbrev pub chain_of : NestedPlan → List Row → List Row
chain_of (Aggregate' made _ (Is p At)) rows = chain_rows p rows
chain_of _ rows = []

abbrev pub fed_to : Option NestedPlan → List Row → List Row
fed_to (Some n) rows = chain_of n rows
fed_to None rows = []

-- each state has seen what the plan makes of these rows
abbrev pub row_sees : Option NestedPlan → List Row → List Part → Type 0
row_sees nested rows states = AreStates (aggs_of nested) (fed_to nested rows) states

-- what a row-wise plan reads of rows of this width is there
abbrev pub ReadsNested : Option NestedPlan → ℕ → Type 0
ReadsNested (Some n) width = NSound n width × (is_row_wise n ≡ true)
ReadsNested None width = Unit {0}

IsSound-prop : (width : ℕ) (e : Rex) → IsProp (IsSound width e)
IsSound-prop width e = Coded-set coded_bool (is_sound width e) true

AreSound-prop : (width : ℕ) (es : List Rex) → IsProp (AreSound width es)
AreSound-prop width es = AllByRecursion-prop (IsSound width) (IsSound-prop width) es

NSound-prop : (n : NestedPlan) (width : ℕ) → IsProp (NSound n width)
NSound-prop Nested width = Unit-prop
NSound-prop (Assign' made _ (Is p At)) width = ×_prop (NSound-prop p width) (AreSound-prop (n_width p width) made)
NSound-prop (Select' c _ (Is p At)) width = ×_prop (NSound-prop p width) (IsSound-prop (n_width p width) c)
NSound-prop (Project' columns _ (Is p At)) width = ×_prop (NSound-prop p width) (AllByRecursion-prop (λ j. j < n_width p width) (λ j. le_prop) columns)
NSound-prop (Unnest' g _ (Is p At)) width = ×_prop (NSound-prop p width) (AreSound-prop (n_width p width) (item_exprs g))
NSound-prop (Order' keys _ (Is p At)) width = ×_prop (NSound-prop p width) (AllByRecursion-prop (λ k. k.column < n_width p width) (λ k. le_prop) keys)
NSound-prop (Distinct' _ (Is p At)) width = NSound-prop p width
NSound-prop (Limit' m k _ (Is p At)) width = NSound-prop p width
NSound-prop (Aggregate' made _ (Is p At)) width = ×_prop (NSound-prop p width) (AllByRecursion-prop (λ a. AreSound (n_width p width) (agg_exprs a)) (λ a. AreSound-prop (n_width p width) (agg_exprs a)) made)

pub ReadsNested-prop : (nested : Option NestedPlan) (width : ℕ) → IsProp (ReadsNested nested width)
ReadsNested-prop (Some n) width = ×_prop (NSound-prop n width) (Coded-set coded_bool (is_row_wise n) true)
ReadsNested-prop None width = Unit-prop
