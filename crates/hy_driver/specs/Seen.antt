-- What contracts see of a driver.
use Rattle.std.specs.Prelude.{ℕ, Bool, List, [], Option, Some}
use Rattle.hy_store.specs.Runs.{RunsOf}
use Rattle.hy_driver.specs.Rows.{Row, Fed}
use Rattle.hy_driver.specs.declared.phase.Phase.{Phase}
use Rattle.hy_driver.specs.declared.phase.Phase.TheVariants.{Working, Hungry, Ended, GivenUp}

-- a check: its name, and whether a row passes
abbrev pub Check : Type 0
Check = List ℕ × (Row → Bool)

-- what a driver was made with, which no call changes
pub record Fixed : Type 0 where
  -- the unit of its bank, and how many frames of it the driver may use, beside one more
  pub unit : ℕ
  pub memory : ℕ
  -- by how many turns a feed or an end may put off the end
  pub cost : ℕ
  -- how many values the rows of each input have, and those that it gives or hands on
  pub width : ℕ → ℕ
  pub arity : ℕ
  pub check : Option Check

-- the store of a driver
pub record StoreOf : Type 0 where
  pub runs : RunsOf
  pub faults : ℕ

-- that of a driver without one: it never made a run, and tells so
abbrev pub no_store : StoreOf
no_store = record { runs = record { live = []; count = λ run. 0; held = Some (λ run. []); made = 0 }; faults = 0 }

pub record Seen : Type 1 where
  -- what it may still put, by giving and by handing on, for the rows that are still to come
  pub rest : List Fed → List Row → Type 0
  -- what holds between its calls, and makes `rest` true of it. Of a driver with a store it says that the store tells; without
  -- that nothing is said of rows
  pub sound : Type 0
  -- which inputs have ended. One that it has not has ended from the start
  pub ended : ℕ → Bool
  -- what the last call came to
  pub phase : Phase
  -- how many turns are left
  pub turns : ℕ
  -- how many frames of its bank it holds
  pub frames : ℕ
  -- the rows that it took and has still to test, of a check
  pub untested : List Row
  -- the rows that it hands on, once it has ended
  pub hands_on : List Row
  pub store : StoreOf
  -- how many runs it still makes for the rows that are still to come
  pub makes : List Fed → ℕ
  pub fixed : Fixed

-- the turns that the last call left for asking and for ending
abbrev pub turns_in : Phase → ℕ
turns_in Working = 2
turns_in Hungry = 1
turns_in Ended = 0
turns_in GivenUp = 0
