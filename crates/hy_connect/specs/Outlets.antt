-- What a writer holds for one of its receivers.
use Rattle.std.specs.Prelude.{◌≡◌, ◌≢◌, ◌<◌, ◌≤◌, ◌-◌, ◌+◌, ◌^◌, ℕ, List, [], ◌∷◌, ◌++◌, map, slice_index_or, Option, Some, None}
use Rattle.std.specs.List.{flat_map, AllByRecursion}
use Rattle.hy_frame.specs.Bank.{BankOf}
use Rattle.hy_frame.specs.Frame.{FrameOf, with_rows}
use Rattle.hy_frame.specs.Row.{Fields}
use Rattle.hy_frame.specs.declared.writer.WriterState.{WriterState}
use Rattle.hy_frame.specs.declared.writer.WriterState.TheVariants.{Opened}
use Rattle.hy_mail.specs.declared.parcel.Parcel.{Parcel}
use Rattle.hy_mail.specs.declared.parcel.Parcel.TheVariants as P
use Rattle.hy_mail.specs.Rows.{rows_in}
use Rattle.hy_mail.specs.Words.{Leads}
use Rattle.hy_driver.specs.Rows.{Row, values_of}

pub record OutletOf : Type 0 where
  -- the number of the receiver's mailbox
  pub mailbox : ℕ
  -- the frame that is being filled, where there is one
  pub filling : Option FrameOf
  -- the parcels that wait to be put, in order
  pub waits : List Parcel
  -- for how many parcels more there is room
  pub spare : ℕ

abbrev pub blank : OutletOf
blank = record { mailbox = 0; filling = None; waits = []; spare = 0 }

-- the outlet in this place
abbrev pub outlet_at : List OutletOf → ℕ → OutletOf
outlet_at outlets k = slice_index_or outlets k blank

-- ---- rows

abbrev pub parcel_rows : Parcel → List Row
parcel_rows p = map values_of (rows_in p)

abbrev pub filled_rows : Option FrameOf → List Row
filled_rows None = []
filled_rows (Some f) = map values_of f.rows

-- the rows of the parcels that wait
abbrev pub waiting_rows : OutletOf → List Row
waiting_rows o = flat_map parcel_rows o.waits

-- all rows that it still owes its receiver
abbrev pub owed_rows : OutletOf → List Row
owed_rows o = waiting_rows o ++ filled_rows o.filling

-- ---- frames

abbrev pub held_in : Option FrameOf → ℕ
held_in None = 0
held_in (Some f) = 1

abbrev pub held_of : List OutletOf → ℕ
held_of [] = 0
held_of (o ∷ os) = held_in o.filling + held_of os

-- after a call that was lent the bank: as many frames more are out as are held more
pub record Lent (held held' : ℕ) (bank bank' : BankOf) : Type 0 where
  pub out : bank'.out + held ≡ bank.out + held'
  pub unit : bank'.unit ≡ bank.unit
  pub limit : bank'.limit ≡ bank.limit

abbrev pub frames_of : Parcel → ℕ
frames_of P.Open = 0
frames_of (P.Frame f) = 1
frames_of P.Fail = 0
frames_of P.Close = 0

-- how many of these parcels are frames
abbrev pub frames_in : List Parcel → ℕ
frames_in [] = 0
frames_in (p ∷ ps) = frames_of p + frames_in ps

-- how many frames wait to be put
abbrev pub frames_waiting : List OutletOf → ℕ
frames_waiting [] = 0
frames_waiting (o ∷ os) = frames_in o.waits + frames_waiting os

-- after a call that was lent the bank: as many frames more were exported as wait more, as far as the count goes, and none
-- was imported
pub record Exports (waits waits' : ℕ) (bank bank' : BankOf) : Type 0 where
  pub no_less : waits ≤ waits'
  pub exported : bank'.exported < 2 ^ 64 - 1 → bank'.exported + waits ≡ bank.exported + waits'
  pub imported : bank'.imported ≡ bank.imported

-- ---- what may stand in an outlet

-- a frame with some rows
pub record HasRows (arity : ℕ) (f : FrameOf) : Type 0 where
  pub wide : f.arity ≡ arity
  pub some : f.rows ≢ []

abbrev pub HasFilled : ℕ → Option FrameOf → Type 0
HasFilled arity None = Unit {0}
HasFilled arity (Some f) = HasRows arity f

-- a parcel that may be put: its frame, where it has one, has rows
abbrev pub IsSendable : ℕ → Parcel → Type 0
IsSendable arity P.Open = Unit {0}
IsSendable arity (P.Frame f) = HasRows arity f
IsSendable arity P.Fail = Unit {0}
IsSendable arity P.Close = Unit {0}

-- its frames have rows, and there is room for this many parcels more
pub record IsOutlet (arity least : ℕ) (o : OutletOf) : Type 0 where
  pub filling : HasFilled arity o.filling
  pub waits : AllByRecursion (IsSendable arity) o.waits
  pub spare : least ≤ o.spare

-- ---- changes of one outlet

-- one parcel more waits
abbrev pub posted : Parcel → OutletOf → OutletOf
posted p o = record { mailbox = o.mailbox; filling = o.filling; waits = o.waits ++ p ∷ []; spare = o.spare - 1 }

-- it fills no frame
abbrev pub emptied : OutletOf → OutletOf
emptied o = record { mailbox = o.mailbox; filling = None; waits = o.waits; spare = o.spare }

-- what is filled waits
abbrev pub flushed_with : Option FrameOf → OutletOf → OutletOf
flushed_with None o = emptied o
flushed_with (Some f) o = posted (P.Frame f) (emptied o)

abbrev pub flushed : OutletOf → OutletOf
flushed o = flushed_with o.filling o

-- a failure, and an end
abbrev pub failed : OutletOf → OutletOf
failed o = posted P.Fail (emptied o)

abbrev pub closed : OutletOf → OutletOf
closed o = posted P.Close (flushed o)

-- the first parcel is taken
pub record Pops (old : OutletOf) (p : Parcel) (new : OutletOf) : Type 0 where
  pub mailbox : new.mailbox ≡ old.mailbox
  pub filling : new.filling ≡ old.filling
  pub first : old.waits ≡ p ∷ new.waits
  pub spare : new.spare ≡ old.spare + 1

-- there is room for more
pub record Grows (old new : OutletOf) : Type 0 where
  pub mailbox : new.mailbox ≡ old.mailbox
  pub filling : new.filling ≡ old.filling
  pub waits : new.waits ≡ old.waits
  pub spare : old.spare ≤ new.spare

-- a frame more waits, and there is room for two parcels behind it
pub record Sends (old : OutletOf) (f : FrameOf) (new : OutletOf) : Type 0 where
  pub mailbox : new.mailbox ≡ old.mailbox
  pub filling : new.filling ≡ old.filling
  pub waits : new.waits ≡ old.waits ++ P.Frame f ∷ []
  pub spare : 2 ≤ new.spare

-- the frame that is filled has one row more
pub record Extends (old : OutletOf) (row : Fields) (new : OutletOf) : Type 0 where
  pub frame : FrameOf
  pub was : old.filling ≡ Some frame
  pub is : new ≡ record { mailbox = old.mailbox; filling = Some (with_rows frame (frame.rows ++ row ∷ [])); waits = old.waits; spare = old.spare }

-- what was waiting led the word on to where it was, and what is waiting leads it on to where it is
abbrev pub GoesOn : WriterState → OutletOf → WriterState → OutletOf → Type 0
GoesOn state old state' new = (word : WriterState) → Leads word old.waits state → Leads word new.waits state'

-- it took these rows
pub record Adds (arity : ℕ) (old : OutletOf) (rows : List Row) (new : OutletOf) : Type 0 where
  pub mailbox : new.mailbox ≡ old.mailbox
  pub owed : owed_rows new ≡ owed_rows old ++ rows
  pub word : GoesOn Opened old Opened new
  pub outlet : IsOutlet arity 2 new

-- what waits is a front of what it owed and of these rows
pub record Cuts (arity : ℕ) (old : OutletOf) (rows : List Row) (new : OutletOf) : Type 0 where
  pub mailbox : new.mailbox ≡ old.mailbox
  pub lost : List Row
  pub front : owed_rows old ++ rows ≡ waiting_rows new ++ lost
  pub word : GoesOn Opened old Opened new
  pub outlet : IsOutlet arity 2 new

-- all rows that it owes wait
pub record Empties (arity : ℕ) (old new : OutletOf) : Type 0 where
  pub filling : new.filling ≡ None
  pub adds : Adds arity old [] new

-- the rows of the frame that was filled are lost
pub record Loses (arity : ℕ) (old new : OutletOf) : Type 0 where
  pub filling : new.filling ≡ None
  pub cuts : Cuts arity old [] new
