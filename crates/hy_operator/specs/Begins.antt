-- What contracts see of a new operator.
use Rattle.std.specs.Prelude.{◌≡◌, ◌↔◌, ◌<◌, ◌+◌, ◌^◌, ℕ, zero, suc, false, Option, Some, None, List, [], length, map, IsSome}
use Rattle.al_value.specs.declared.settings.Settings.{Settings}
use Rattle.hy_frame.specs.Row.{Fields}
use Rattle.hy_driver.specs.Rows.{Row, values_of}
use Rattle.hy_driver.specs.Seen.{Check, Fixed, Seen, StoreOf}
use Rattle.hy_driver.specs.Steps.{IsNew}
use Rattle.hy_job.specs.declared.job.Kind.{Kind}
use Rattle.hy_job.specs.declared.job.Kind.TheVariants as K
use Rattle.hy_job.specs.Columns.{holds}
use Rattle.hy_job.specs.Drivers.{all_left, driver_out}
use Rattle.hy_job.specs.Sound.{inputs}
use Rattle.hy_operator.specs.declared.input.RowShape.{RowShape}

-- the list that something has, and nothing where it isn't there
abbrev pub listed : {A B : Type 0} → (A → List B) → Option A → List B
listed list (Some x) = list x
listed list None = []

-- the width of the rows of an input
abbrev pub width_at : RowShape → ℕ → ℕ
width_at shape zero = shape.left
width_at shape (suc input) = shape.right

-- by how many turns a feed or an end may put off the end, where so many rows were handed
abbrev pub cost_of : Kind → ℕ → ℕ
cost_of (K.Scan set) handed = 1
cost_of K.One handed = 1
cost_of (K.Unnest items) handed = 2 ^ 64
cost_of (K.PreGroup keys inner) handed = 3
cost_of (K.SortBuild keys) handed = 1
cost_of (K.SortEmit keys) handed = 1
cost_of (K.GroupBuild arg) handed = 3
cost_of (K.GroupEmit arg) handed = 3
cost_of (K.JoinBuild arg) handed = 1
cost_of (K.JoinProbe arg) handed = handed + 2
cost_of (K.AggPart made) handed = 1
cost_of (K.AggFinal made) handed = 1
cost_of _ handed = 2

abbrev pub check_of : Kind → Option Check
check_of (K.Check name cond) = Some (name, holds cond)
check_of _ = None

-- what it was made with, of which no call changes anything
pub record IsFixed (kind : Kind) (settings : Settings) (shape : RowShape) (handed : ℕ) (fixed : Fixed) : Type 0 where
  pub unit : fixed.unit ≡ settings.frame_size
  pub memory : fixed.memory ≡ settings.memory
  pub cost : fixed.cost ≡ cost_of kind handed
  pub width : (input : ℕ) → input < inputs kind → fixed.width input ≡ width_at shape input
  pub arity : fixed.arity ≡ shape.arity
  pub check : fixed.check ≡ check_of kind

-- the new operator of an activity of this kind in partition `j`, with a scan's rows and those that were handed, and this store
pub record Begins (kind : Kind) (settings : Settings) (j : ℕ) (shape : RowShape) (scanned : List Row) (handed : List Fields) (store : StoreOf) (s : Seen) : Type 0 where
  -- it gives what its activity makes
  pub new : IsNew s (driver_out kind shape.arity (all_left kind settings.partitions j scanned (map values_of handed)))
  -- what holds between its calls, if its store tells
  pub sound : IsSome store.runs.held → s.sound
  -- its activity's inputs are to come, and no other is
  pub inputs_go : (k : ℕ) → (k < inputs kind) ↔ (s.ended k ≡ false)
  pub made : IsFixed kind settings shape (length handed) s.fixed
  pub stored : s.store ≡ store
