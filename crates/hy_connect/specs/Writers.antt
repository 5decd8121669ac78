-- What contracts see of a writer, and what its calls do to what it may still offer each receiver.
use Rattle.std.specs.Prelude.{◌≡◌, ◌≢◌, ◌<◌, ◌≤◌, ◌+◌, ℕ, true, false, List, [], ◌∷◌, ◌++◌, length, slice_index_or, None, Result, Ok, Err}
use Rattle.hy_frame.specs.declared.writer.WriterState.{WriterState}
use Rattle.hy_frame.specs.declared.writer.WriterState.TheVariants.{Initial, Opened, Failed, Closed}
use Rattle.hy_rest.specs.Rest.{Continues, InOrder}
use Rattle.hy_mail.specs.declared.parcel.Parcel.{Parcel}
use Rattle.hy_mail.specs.Events.{Event, Full, Put}
use Rattle.hy_mail.specs.Words.{HasArity, Leads, may}
use Rattle.hy_job.specs.declared.job.Wire.{Wire}
use Rattle.hy_driver.specs.Rows.{Row}
use Rattle.hy_connect.specs.declared.route.Route.{Route}
use Rattle.hy_connect.specs.declared.writer.Offer.{Offer}
use Rattle.hy_connect.specs.declared.writer.Offer.TheVariants as O
use Rattle.hy_connect.specs.Routes.{RoutesBy, fills, route_of, sent_by}
use Rattle.hy_connect.specs.Outlets.{OutletOf, IsOutlet, IsSendable, frames_of, frames_waiting, outlet_at, owed_rows, parcel_rows, waiting_rows}

pub record WriterOf : Type 0 where
  pub route : Route
  -- how many fields its rows have, and the size of its frames
  pub arity : ℕ
  pub unit : ℕ
  -- one for each receiver, in the order of the receivers
  pub outlets : List OutletOf
  -- how far its word has come
  pub state : WriterState

-- of its parts
abbrev pub writer_of : Route → ℕ → ℕ → List OutletOf → WriterState → WriterOf
writer_of route arity unit outlets state = record { route = route; arity = arity; unit = unit; outlets = outlets; state = state }

abbrev pub receivers : WriterOf → ℕ
receivers w = length w.outlets

-- what it holds for the receiver in this place
abbrev pub outlet : WriterOf → ℕ → OutletOf
outlet w k = outlet_at w.outlets k

-- how many parcels more have room in each outlet
abbrev pub reserve : WriterState → ℕ
reserve Initial = 3
reserve Opened = 2
reserve Failed = 1
reserve Closed = 0

-- no two receivers have one mailbox
abbrev pub AreApart : List OutletOf → Type 0
AreApart outlets = (j k : ℕ) → j < length outlets → k < length outlets → (outlet_at outlets j).mailbox ≡ (outlet_at outlets k).mailbox → j ≡ k

-- what is true of each writer
pub record IsWriter (w : WriterOf) : Type 0 where
  pub some : 0 < length w.outlets
  pub apart : AreApart w.outlets
  pub columns : RoutesBy w.arity w.route
  pub few : w.arity ≤ 1024
  pub outlets : (k : ℕ) → k < length w.outlets → IsOutlet w.arity (reserve w.state) (outlet_at w.outlets k)
  pub quiet : fills w.state w.route ≡ false → (k : ℕ) → k < length w.outlets → (outlet_at w.outlets k).filling ≡ None

-- ---- what it may still offer

-- rows may be given until it has failed or is closed
abbrev pub MayGive : WriterState → List Row → Type 0
MayGive Initial given = Unit {0}
MayGive Opened given = Unit {0}
MayGive Failed given = given ≡ []
MayGive Closed given = given ≡ []

-- of the rows that are given, the receiver in this place is sent these
abbrev pub SendsTo : WriterOf → ℕ → List Row → List Row → Type 0
SendsTo w k given put = put ≡ sent_by w.route (receivers w) k given

-- what it may still offer the receiver in this place, for the rows that are still to be given: what it owes, and then what
-- the wire sends of these
abbrev pub may_offer : WriterOf → ℕ → List Row → List Row → Type 0
may_offer w k given put = MayGive w.state given × InOrder (owed_rows (outlet w k)) [] (SendsTo w k) given put

-- the words at the receivers' mailboxes have come as far as this writer has put them: what waits leads them to where it is
abbrev pub IsAsFar : (ℕ → WriterState) → WriterOf → Type 0
IsAsFar word w = (k : ℕ) → k < receivers w → Leads (word (outlet w k).mailbox) (outlet w k).waits w.state

-- the first of these parcels may come next in a word that has come so far, at a mailbox for rows of so many fields
abbrev pub MayPut : WriterState → ℕ → List Parcel → Type 0
MayPut word arity waits = (p : Parcel) (rest : List Parcel) → waits ≡ p ∷ rest → (may word p ≡ true) × HasArity arity p

-- ---- calls

-- what no call changes
pub record IsStill (old new : WriterOf) : Type 0 where
  pub route : new.route ≡ old.route
  pub arity : new.arity ≡ old.arity
  pub unit : new.unit ≡ old.unit
  pub count : receivers new ≡ receivers old
  pub mailbox : (k : ℕ) → k < receivers old → (outlet new k).mailbox ≡ (outlet old k).mailbox

-- a new writer of this wire, with these mailboxes: it owes nothing
pub record IsNew (wire : Wire) (boxes : List ℕ) (unit arity : ℕ) (w : WriterOf) : Type 0 where
  pub route : w.route ≡ route_of wire
  pub wide : w.arity ≡ arity
  pub size : w.unit ≡ unit
  pub count : receivers w ≡ length boxes
  pub mailbox : (k : ℕ) → k < length boxes → (outlet w k).mailbox ≡ slice_index_or boxes k 0
  pub waits : (k : ℕ) → k < length boxes → (outlet w k).waits ≡ []
  pub filling : (k : ℕ) → k < length boxes → (outlet w k).filling ≡ None
  pub none : frames_waiting w.outlets ≡ 0
  pub state : w.state ≡ Initial

-- it was given these rows: what it may offer now, it might offer before with these rows in front
pub record Writes (old : WriterOf) (rows : List Row) (new : WriterOf) : Type 0 where
  pub still : IsStill old new
  pub offers : (k : ℕ) → k < receivers old → Continues (may_offer old k) rows [] (may_offer new k)
  pub words : (word : ℕ → WriterState) → IsAsFar word old → IsAsFar word new

-- it was given these rows and could not take all of them: what waits for each receiver is a front of what it might offer
pub record Tears (old : WriterOf) (rows : List Row) (new : WriterOf) : Type 0 where
  pub still : IsStill old new
  pub fronts : (k : ℕ) → k < receivers old → (lost : List Row) × (owed_rows (outlet old k) ++ sent_by old.route (receivers old) k rows ≡ waiting_rows (outlet new k) ++ lost)
  pub words : (word : ℕ → WriterState) → IsAsFar word old → IsAsFar word new

-- it gave up the rows of frames that were being filled: what waits is all that it still owes
pub record Fails (old new : WriterOf) : Type 0 where
  pub still : IsStill old new
  pub waits : (k : ℕ) → k < receivers old → waiting_rows (outlet new k) ≡ waiting_rows (outlet old k)
  pub owed : (k : ℕ) → k < receivers old → owed_rows (outlet new k) ≡ waiting_rows (outlet old k)
  pub words : (word : ℕ → WriterState) → IsAsFar word old → IsAsFar word new

-- what became of rows that were to be written
abbrev pub TellsWritten : WriterOf → List Row → WriterOf → {E : Type 0} → Result Unit E → Type 0
TellsWritten old rows new (Ok x) = Writes old rows new
TellsWritten old rows new (Err e) = Tears old rows new

-- at most so many parcels more wait for each receiver
abbrev pub AddsParcels : ℕ → WriterOf → WriterOf → Type 0
AddsParcels n old new = (k : ℕ) → k < receivers old → length (outlet new k).waits ≤ length (outlet old k).waits + n

-- ---- offers

-- the first parcel that waits for the receiver in this place was put
pub record SendsOn (old : WriterOf) (k : ℕ) (p : Parcel) (new : WriterOf) : Type 0 where
  pub still : IsStill old new
  pub there : k < receivers old
  pub state : new.state ≡ old.state
  pub first : (outlet old k).waits ≡ p ∷ (outlet new k).waits
  pub others : (j : ℕ) → j ≢ k → outlet new j ≡ outlet old j
  -- it waits no more
  pub frames : frames_waiting old.outlets ≡ frames_of p + frames_waiting new.outlets
  -- its frame, where it has one, has rows
  pub sendable : IsSendable old.arity p
  -- what may be offered to that receiver now, might be offered before behind this parcel's rows
  pub offers : Continues (may_offer old k) [] (parcel_rows p) (may_offer new k)

-- no parcel waits
abbrev pub NoneWaits : List OutletOf → Type 0
NoneWaits outlets = (k : ℕ) → k < length outlets → (outlet_at outlets k).waits ≡ []

abbrev pub IsIdle : WriterOf → Type 0
IsIdle w = NoneWaits w.outlets

abbrev pub TellsOffer : {P : Type 0} → (P → Event → P → Type 0) → P → P → WriterOf → WriterOf → Offer → Type 0
TellsOffer happens port port' old new O.Nothing = IsIdle old × (new ≡ old) × (port' ≡ port)
TellsOffer happens port port' old new O.Put = (k : ℕ) × (p : Parcel) × SendsOn old k p new × happens port (Put (outlet old k).mailbox p) port'
TellsOffer happens port port' old new O.Full = (k : ℕ) × (k < receivers old) × ((outlet old k).waits ≢ []) × (new ≡ old) × happens port (Full (outlet old k).mailbox) port'
