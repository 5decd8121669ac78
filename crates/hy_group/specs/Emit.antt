-- What contracts see of the driver that gives groups.
use Rattle.std.specs.Prelude.{◌≡◌, ◌+◌, ◌-◌, ◌*◌, ℕ, nat_lt, Bool, true, false, List, [], ◌∷◌, ◌++◌, map, take, length, Result, Ok, Err}
use Rattle.std.specs.List.{AllByRecursion, AllZip}
use Rattle.std.specs.List.Sorted.{IsPermutation}
use Rattle.al_value.specs.declared.fault.NoMemory.{NoMemory}
use Rattle.al_value.specs.declared.value.Value.{Value}
use Rattle.al_agg.specs.Agg.{agg}
use Rattle.al_agg.specs.declared.part.Part.{Part}
use Rattle.al_agg.specs.Part.{Stands, agg_of}
use Rattle.hy_frame.specs.Row.{Fields, IsRow}
use Rattle.hy_job.specs.declared.job.GroupArg.{GroupArg}
use Rattle.hy_job.specs.Runs.{IsGroupOf, first_columns}
use Rattle.hy_driver.specs.Rows.{Row, values_of}
use Rattle.hy_driver.specs.Seen.{Fixed, Seen, StoreOf, turns_in}
use Rattle.hy_driver.specs.Forms.{may_come, one_ended}
use Rattle.hy_driver.specs.declared.phase.Phase.{Phase}
use Rattle.hy_group.specs.Groups.{Entry, StandFor}
use Rattle.hy_group.specs.Joining.{handed_sees}

-- the value of a state's aggregate, whatever values it has seen
abbrev pub IsFinished : Part → Value → Type 0
IsFinished p v = (vs : List Value) → Stands p vs → v ≡ agg (agg_of p) vs

-- the row that is given for a group: the values of its key and those of its aggregates
pub record IsGiven (e : Entry) (row : Row) : Type 0 where
  pub values : Row
  pub each : AllZip IsFinished e.1 values
  pub is : row ≡ e.0 ++ values

-- the values of these states' aggregates were put behind others
pub record Finishes (states : List Part) (old new : Row) : Type 0 where
  pub values : Row
  pub each : AllZip IsFinished states values
  pub is : new ≡ old ++ values

-- the last group was taken out, and its row given
pub record IsTaken (arity : ℕ) (old new : List Entry) (out : Fields) : Type 0 where
  pub entry : Entry
  pub last : old ≡ new ++ entry ∷ []
  pub given : IsGiven entry (values_of out)
  pub is_row : IsRow arity out

-- where memory ran out a group was taken out all the same
abbrev pub TakesOut : ℕ → List Entry → List Entry → Fields → Result Bool NoMemory → Type 0
TakesOut arity old new out (Ok true) = IsTaken arity old new out
TakesOut arity old new out (Ok false) = (old ≡ []) × (new ≡ [])
TakesOut arity old new out (Err e) = (entry : Entry) × (old ≡ new ++ entry ∷ [])

-- a row for each group, in any order
pub record AreGiven (entries : List Entry) (put : List Row) : Type 0 where
  pub made : List Row
  pub each : AllZip IsGiven entries made
  pub moved : IsPermutation made put

-- while rows that were handed to it are left, it may give what its activity makes of all of them, and then a row for each group
abbrev pub emit_rest : Bool → GroupArg → List Row → List Entry → List Row → Type 0
emit_rest true arg handed entries put = IsGroupOf arg handed put
emit_rest false arg handed entries put = AreGiven entries put

-- while rows are left the groups stand for those that it has worked on
pub record WorksOn (arity : ℕ) (arg : GroupArg) (rows : List Fields) (at : ℕ) (entries : List Entry) : Type 0 where
  pub rows_are : AllByRecursion (IsRow arity) rows
  pub stand : StandFor (handed_sees arg) (first_columns arg) entries (take at (map values_of rows))

abbrev pub emit_sound : Bool → ℕ → GroupArg → List Fields → ℕ → List Entry → Type 0
emit_sound true arity arg rows at entries = WorksOn arity arg rows at entries
emit_sound false arity arg rows at entries = Unit {0}

-- each row that was handed to it may be a group, which it gives in one turn
abbrev pub emit_state : Fixed → ℕ → GroupArg → List Fields → ℕ → List Entry → Bool → Phase → StoreOf → Seen
emit_state fixed arity arg rows at entries ended phase store = record {
  rest = λ took put. may_come (one_ended ended) fixed.width took × emit_rest (nat_lt at (length rows)) arg (map values_of rows) entries put;
  sound = emit_sound (nat_lt at (length rows)) arity arg rows at entries;
  ended = one_ended ended;
  phase = phase;
  turns = 4 * (length rows - at) + (2 * length entries + turns_in phase);
  frames = 0;
  untested = [];
  hands_on = [];
  store = store;
  makes = λ took. 0;
  fixed = fixed;
}
