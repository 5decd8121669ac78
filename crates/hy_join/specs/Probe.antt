-- What contracts see of the driver that probes the right side of a join with left rows.
use Rattle.std.specs.Prelude.{◌≡◌, ◌+◌, ◌-◌, ℕ, Bool, true, false, if◌then◌else◌, List, [], ◌∷◌, map, length, drop, None, Option, is_some, Result, Ok, Err}
use Rattle.al_value.specs.declared.fault.NoMemory.{NoMemory}
use Rattle.hy_frame.specs.Row.{Fields, IsRow}
use Rattle.hy_store.specs.declared.fault.Next.{Next}
use Rattle.hy_store.specs.declared.fault.Next.TheVariants as N
use Rattle.hy_driver.specs.Rows.{Row, Fed, values_of}
use Rattle.hy_driver.specs.Seen.{Fixed, Seen, StoreOf, turns_in}
use Rattle.hy_driver.specs.Forms.{one_ended}
use Rattle.hy_driver.specs.declared.phase.Phase.{Phase}
use Rattle.hy_job.specs.declared.job.JoinArg.{JoinArg}
use Rattle.hy_job.specs.declared.job.Kind.TheVariants as K
use Rattle.hy_job.specs.Columns.{matches, or_alone, padded}
use Rattle.hy_job.specs.Drivers.{driver_out}
use Rattle.hy_job.specs.Sound.{Widths}
use Rattle.hy_rows.specs.State.{row_state}
use Rattle.hy_join.specs.Keys.{partners}
use Rattle.hy_join.specs.declared.left.LeftRow.{LeftRow}
use Rattle.hy_join.specs.declared.right.RightSide.{RightSide}
use Rattle.hy_join.specs.declared.right.Sides.{Sides}

abbrev pub widths_of : Sides → Widths
widths_of sides = record { taken = λ input. sides.left; handed = sides.right; built = sides.right }

abbrev pub arity_of : RightSide → ℕ
arity_of side = side.sides.left + side.sides.right

-- the right rows of these fields
abbrev pub right_rows : List Fields → List Row
right_rows rows = map values_of rows

-- the output for the left rows that come
abbrev pub probe_out : JoinArg → ℕ → List Row → List Fed → List Row → Type 0
probe_out arg arity rights = driver_out (K.JoinProbe arg) arity (record { skip = 0; give = 0; own = []; handed = rights; last = false })

-- ---- the left row at hand

-- the pairs, and where there are none the row alone if it still is
abbrev pub or_alone_yet : Bool → Row → List Row → List Row
or_alone_yet true l pairs = or_alone l pairs
or_alone_yet false l pairs = pairs

-- what a left row that is at hand still gives, of the right rows that it may meet from this place on
abbrev pub owed_of : JoinArg → ℕ → List Fields → Fields → Bool → Bool → ℕ → List Row
owed_of arg arity rows row holds alone place =
    if holds then or_alone_yet alone (padded arity (values_of row)) (matches arg (drop place (right_rows rows)) (values_of row)) else []

-- one turn for each right row that it may still meet, and one to leave
abbrev pub turns_of : List Fields → Bool → ℕ → ℕ
turns_of rows holds place = if holds then (length rows - place) + 1 else 0

-- the right rows that a left row may meet
abbrev pub partners_of : RightSide → Option ℕ → List Fields
partners_of side hash = partners (is_some side.index) side.arg.right hash side.rows

abbrev pub owed : RightSide → LeftRow → List Row
owed side left = owed_of side.arg (arity_of side) (partners_of side left.hash) left.row left.holds left.alone left.place

abbrev pub left_turns : RightSide → LeftRow → ℕ
left_turns side left = turns_of (partners_of side left.hash) left.holds left.place

-- the first row that is owed is this one
pub record GivesFirst (side : RightSide) (old : LeftRow) (out : Fields) (new : LeftRow) : Type 0 where
  pub first : owed side old ≡ values_of out ∷ owed side new
  pub is_row : IsRow (arity_of side) out

-- what came of a turn
abbrev pub Looks : RightSide → LeftRow → Fields → LeftRow → Result Next NoMemory → Type 0
Looks side old out new (Ok N.Row) = GivesFirst side old out new
Looks side old out new (Ok N.Work) = owed side new ≡ owed side old
Looks side old out new (Ok N.NeedInput) = ⊥
Looks side old out new (Ok N.End) = ⊥
Looks side old out new (Err fault) = Unit {0}

-- ---- the driver

-- a left row has a turn for each right row, and one to leave
abbrev pub probe_fixed : RightSide → Fixed
probe_fixed side = record { unit = side.settings.frame_size; memory = side.settings.memory; cost = length side.rows + 2; width = λ input. side.sides.left; arity = arity_of side; check = None }

-- a driver that owes these rows, has so many turns left for them, and makes no run of its store
abbrev pub probe_state : Fixed → (List Fed → List Row → Type 0) → Bool → Phase → StoreOf → List Row → ℕ → Seen
probe_state fixed out ended phase store owed turns = record (row_state fixed out (one_ended ended) owed phase) { turns = turns + turns_in phase; store = store }

abbrev pub probe_seen : RightSide → LeftRow → Bool → Phase → StoreOf → Seen
probe_seen side left ended phase store =
    probe_state (probe_fixed side) (probe_out side.arg (arity_of side) (right_rows side.rows)) ended phase store (owed side left) (left_turns side left)
