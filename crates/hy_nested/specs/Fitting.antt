-- When a nested plan may be run over rows: these have one number of values, for which it is sound.
use Rattle.std.specs.Prelude.{ℕ, List}
use Rattle.hy_job.specs.declared.nested.AggRex.{AggRex}
use Rattle.hy_job.specs.declared.nested.NestedPlan.{NestedPlan}
use Rattle.hy_job.specs.Columns.{Row}
use Rattle.hy_job.specs.Nested.{n_width}
use Rattle.hy_job.specs.Sound.{NSound, AreSoundAggs, SoundNested}
use Rattle.hy_job.specs.RunLaws.{AreWide}

-- the rows have one number of values, and this holds of it
abbrev pub OneWidth : List Row → (ℕ → Type 0) → Type 0
OneWidth rows P = (width : ℕ) × AreWide width rows × P width

-- a nested plan that may be run over these rows
abbrev pub FitsNested : NestedPlan → List Row → Type 0
FitsNested plan rows = OneWidth rows (SoundNested plan)

-- a part of one
abbrev pub Fits : NestedPlan → List Row → Type 0
Fits plan rows = OneWidth rows (NSound plan)

-- a part of one, and aggregates over it
abbrev pub AggregatesFit : List AggRex → NestedPlan → List Row → Type 0
AggregatesFit made plan rows = OneWidth rows (λ width. NSound plan width × AreSoundAggs (n_width plan width) made)
