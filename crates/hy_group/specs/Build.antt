-- What contracts see of the driver that builds groups.
use Rattle.std.specs.Prelude.{◌≡◌, ◌+◌, ◌*◌, ℕ, Bool, List, [], ◌++◌, map, length, None}
use Rattle.std.specs.List.{AllByRecursion}
use Rattle.hy_frame.specs.Row.{Fields, IsRow}
use Rattle.hy_job.specs.declared.job.GroupArg.{GroupArg}
use Rattle.hy_job.specs.Columns.{Group, ArePieces}
use Rattle.hy_job.specs.Drivers.{received_of}
use Rattle.hy_job.specs.Runs.{piece_row}
use Rattle.hy_driver.specs.Rows.{Row, Fed, values_of}
use Rattle.hy_driver.specs.Seen.{Fixed, Seen, StoreOf, turns_in}
use Rattle.hy_driver.specs.Forms.{may_come, one_ended}
use Rattle.hy_driver.specs.declared.phase.Phase.{Phase}
use Rattle.hy_group.specs.Fresh.{row_sees}
use Rattle.hy_group.specs.Groups.{Entry, StandFor}

-- a row for each piece of the rows that come
abbrev pub pieces_out : GroupArg → List Fed → List Row → Type 0
pieces_out arg took put = (pieces : List Group) × ArePieces arg.keys (received_of took 0) pieces × (put ≡ map (piece_row arg) pieces)

-- the rows for which the groups stand
abbrev pub Stands : GroupArg → List Entry → List Fed → Type 0
Stands arg entries held = StandFor (row_sees arg.nested) arg.keys entries (received_of held 0)

-- what is owed, and then an output that is one for each list of rows for which the groups stand
pub record ForEach (owed : List Row) (stands : List Fed → Type 0) (out : List Fed → List Row → Type 0) (took : List Fed) (put : List Row) : Type 0 where
  pub rest : List Row
  pub output : (held : List Fed) → stands held → out (held ++ took) rest
  pub is : put ≡ owed ++ rest

-- each row that it took may be a group, which it makes a row of in one turn
abbrev pub build_state : Fixed → GroupArg → List Entry → List Fields → Bool → Phase → StoreOf → Seen
build_state fixed arg entries rows ended phase store = record {
  rest = λ took put. may_come (one_ended ended) fixed.width took × ForEach (map values_of rows) (Stands arg entries) (pieces_out arg) took put;
  sound = AllByRecursion (IsRow fixed.arity) rows;
  ended = one_ended ended;
  phase = phase;
  turns = 2 * length entries + turns_in phase;
  frames = 0;
  untested = [];
  hands_on = map values_of rows;
  store = store;
  makes = λ took. 0;
  fixed = fixed;
}

-- what it was made with
abbrev pub group_fixed : ℕ → ℕ → ℕ → ℕ → Fixed
group_fixed unit memory width arity = record { unit = unit; memory = memory; cost = 3; width = λ input. width; arity = arity; check = None }
