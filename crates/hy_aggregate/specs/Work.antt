-- What comes of the rows that aggregates without keys take.
use Rattle.std.specs.Prelude.{◌≡◌, ℕ, Bool, true, List, length}
use Rattle.std.specs.Coded.{Coded-set, coded_bool, coded_ℕ, →_prop}
use Rattle.std.specs.List.{AllByRecursion-prop, sum_by}
use Rattle.al_func.specs.Rex.{IsSound, is_sound}
use Rattle.al_agg.specs.declared.part.Part.{Part}
use Rattle.al_agg.specs.Part.{width}
use Rattle.hy_job.specs.declared.nested.AggRex.{AggRex}
use Rattle.hy_job.specs.declared.job.Kind.{Kind}
use Rattle.hy_job.specs.declared.job.Kind.TheVariants as K
use Rattle.hy_job.specs.Columns.{Row, state_row}
use Rattle.hy_job.specs.Drivers.{IfLast, received_of}
use Rattle.hy_job.specs.Runs.{AreJoined}
use Rattle.hy_job.specs.Sound.{AreSound, AreSoundAggs, agg_exprs, states_width}
use Rattle.hy_job.specs.States.{AreStates}
use Rattle.hy_driver.specs.Rows.{Fed}
use Rattle.hy_aggregate.specs.declared.work.AggWork.{AggWork}
use Rattle.hy_aggregate.specs.declared.work.AggWork.TheVariants as W
use Rattle.hy_aggregate.specs.Joined.{HaveJoined}

-- the activity's kind
abbrev pub kind_of : AggWork → Kind
kind_of (W.Part made) = K.AggPart made
kind_of (W.Final made) = K.AggFinal made

-- the states after these rows
abbrev pub HaveTaken : AggWork → List Row → List Part → Type 0
HaveTaken (W.Part made) rows states = AreStates made rows states
HaveTaken (W.Final made) rows states = HaveJoined made rows states

-- the row that comes of these rows
abbrev pub IsLast : AggWork → List Row → Row → Type 0
IsLast (W.Part made) rows row = row ≡ state_row made rows
IsLast (W.Final made) rows row = AreJoined made rows row

-- what is still to come: that row, or none
abbrev pub agg_out : AggWork → Bool → List Fed → List Row → Type 0
agg_out work last took = IfLast last (IsLast work (received_of took 0))

-- what it reads of rows of this width is there
abbrev pub Reads : AggWork → ℕ → Type 0
Reads (W.Part made) wide = AreSoundAggs wide made
Reads (W.Final made) wide = wide ≡ sum_by width made

sound-prop : (wide : ℕ) (a : AggRex) → IsProp (AreSound wide (agg_exprs a))
sound-prop wide a = AllByRecursion-prop (IsSound wide) (λ e. Coded-set coded_bool (is_sound wide e) true) (agg_exprs a)

pub Reads-prop : (work : AggWork) (wide : ℕ) → IsProp (Reads work wide)
Reads-prop (W.Part made) wide = AllByRecursion-prop (λ a. AreSound wide (agg_exprs a)) (sound-prop wide) made
Reads-prop (W.Final made) wide = Coded-set coded_ℕ wide (sum_by width made)

-- how many values the row has
abbrev pub arity_of : AggWork → ℕ
arity_of (W.Part made) = states_width made
arity_of (W.Final made) = length made

-- while the row is still to come, the states are those after some rows
abbrev pub IsReached : AggWork → Bool → List Part → Type 0
IsReached work last states = last ≡ true → ((rows : List Row) → HaveTaken work rows states → ⊥) → ⊥

none-prop : IsProp ⊥
none-prop x y = absurd x

pub IsReached-prop : (work : AggWork) (last : Bool) (states : List Part) → IsProp (IsReached work last states)
IsReached-prop work last states = →_prop (→_prop none-prop)
