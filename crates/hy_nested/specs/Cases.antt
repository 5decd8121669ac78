-- Worked cases: over which rows a nested plan may be run.
use Rattle.std.specs.Prelude.{List, [], ◌∷◌}
use Rattle.al_value.specs.declared.value.Value.TheVariants as V
use Rattle.hy_job.specs.declared.nested.NestedPlan.TheVariants as N
use Rattle.hy_job.specs.Cases.{counting, int}
use Rattle.hy_job.specs.Columns.{Row}
use Rattle.hy_job.specs.Nested.{NAllows}
use Rattle.hy_nested.specs.Fitting.{FitsNested}

abbrev pub two_rows : List Row
two_rows = (int 1 ∷ int 3 ∷ []) ∷ (int 1 ∷ int 4 ∷ []) ∷ []

-- rows that have the second value, which is summed
abbrev pub CountingFits : Type 0
CountingFits = FitsNested counting two_rows

-- rows that lack it
abbrev pub NarrowRowsFail : Type 0
NarrowRowsFail = FitsNested counting ((int 1 ∷ []) ∷ (int 2 ∷ []) ∷ []) → ⊥

-- a row that has it before one that lacks it
abbrev pub UnevenRowsFail : Type 0
UnevenRowsFail = FitsNested counting ((int 1 ∷ int 3 ∷ []) ∷ (int 1 ∷ []) ∷ []) → ⊥

-- a plan without an aggregate at its root
abbrev pub RootIsAggregate : Type 0
RootIsAggregate = FitsNested N.Nested two_rows → ⊥

-- no rows
abbrev pub NoRowsFit : Type 0
NoRowsFit = FitsNested counting []

-- over no rows one row is allowed, of a count of 0 and no sum, and none is not
abbrev pub NoneAreCounted : Type 0
NoneAreCounted = NAllows counting [] ((int 0 ∷ V.Null ∷ []) ∷ []) × (NAllows counting [] [] → ⊥)
