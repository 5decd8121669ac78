-- What contracts see of what goes out of a task.
use Rattle.std.specs.Prelude.{◌≡◌, ◌≢◌, ◌<◌, ◌+◌, ℕ, List, [], ◌∷◌, ◌++◌, Option, Some, None}
use Rattle.hy_frame.specs.Frame.{FrameOf, with_rows}
use Rattle.hy_frame.specs.Row.{Fields}
use Rattle.hy_frame.specs.declared.writer.WriterState.{WriterState}
use Rattle.hy_driver.specs.Rows.{Row}
use Rattle.hy_connect.specs.Outlets.{filled_rows, held_in}
use Rattle.hy_output.specs.declared.way.Way.{Way}
use Rattle.hy_output.specs.Ways.{AreAsFar, HasShape, Sends, Stays, Tears, held_by, offers, places, rows_waiting}

pub record OutputOf : Type 0 where
  -- how many fields its rows have, and the size of its frames
  pub arity : ℕ
  pub unit : ℕ
  -- the frame that is being packed, where there is one
  pub filling : Option FrameOf
  pub way : Way

abbrev pub output_of : ℕ → ℕ → Option FrameOf → Way → OutputOf
output_of arity unit filling way = record { arity = arity; unit = unit; filling = filling; way = way }

-- a frame of its shape, with some rows
abbrev pub IsFilling : ℕ → ℕ → Option FrameOf → Type 0
IsFilling arity unit None = Unit {0}
IsFilling arity unit (Some f) = (f.arity ≡ arity) × (f.unit ≡ unit) × (f.rows ≢ [])

-- what is true of each
abbrev pub IsOutput : OutputOf → Type 0
IsOutput o = IsFilling o.arity o.unit o.filling × HasShape o.arity o.unit o.way

-- the rows that were packed and have not gone on
abbrev pub packed : OutputOf → List Row
packed o = filled_rows o.filling

-- how many frames of a bank it holds
abbrev pub held : OutputOf → ℕ
held o = held_in o.filling + held_by o.way

-- it took these rows: those in front went on, and the others are packed
pub record Packs (old : OutputOf) (rows : List Row) (new : OutputOf) : Type 0 where
  pub arity : new.arity ≡ old.arity
  pub unit : new.unit ≡ old.unit
  pub written : List Row
  pub is : packed old ++ rows ≡ written ++ packed new
  pub way : Sends old.way written new.way

-- it could not take them: what waits for each receiver is a front of what might have gone out
pub record Spoils (old : OutputOf) (rows : List Row) (new : OutputOf) : Type 0 where
  pub arity : new.arity ≡ old.arity
  pub unit : new.unit ≡ old.unit
  pub still : Stays old.way new.way
  pub fronts : (k : ℕ) → k < places old.way → (given put : List Row) → offers old.way k ((packed old ++ rows) ++ given) put → (rest : List Row) × (put ≡ rows_waiting new.way k ++ rest)
  pub words : (word : ℕ → WriterState) → AreAsFar word old.way → AreAsFar word new.way

-- the frame that is packed has a row more
pub record Extends (old : OutputOf) (row : Fields) (new : OutputOf) : Type 0 where
  pub frame : FrameOf
  pub was : old.filling ≡ Some frame
  pub is : new ≡ output_of old.arity old.unit (Some (with_rows frame (frame.rows ++ row ∷ []))) old.way

-- a frame is begun with a row
pub record Begins (old : OutputOf) (row : Fields) (new : OutputOf) : Type 0 where
  pub frame : FrameOf
  pub rows : frame.rows ≡ row ∷ []
  pub is : new ≡ output_of old.arity old.unit (Some frame) old.way

-- all that was packed went on
pub record Flushes (old new : OutputOf) : Type 0 where
  pub arity : new.arity ≡ old.arity
  pub unit : new.unit ≡ old.unit
  pub filling : new.filling ≡ None
  pub way : Sends old.way (packed old) new.way

-- it could not go on
pub record Loses (old new : OutputOf) : Type 0 where
  pub arity : new.arity ≡ old.arity
  pub unit : new.unit ≡ old.unit
  pub filling : new.filling ≡ None
  pub way : Tears old.way (packed old) new.way
