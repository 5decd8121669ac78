-- What may still go out over a wire, or be kept, and what calls do to it.
use Rattle.std.specs.Prelude.{◌≡◌, ◌≢◌, ◌<◌, ℕ, List, [], ◌∷◌, ◌++◌, length}
use Rattle.std.specs.List.{AllByRecursion}
use Rattle.hy_frame.specs.Frame.{FrameOf}
use Rattle.hy_frame.specs.declared.writer.WriterState.{WriterState}
use Rattle.hy_frame.specs.declared.writer.WriterState.TheVariants.{Opened}
use Rattle.hy_rest.specs.Rest.{Continues}
use Rattle.hy_mail.specs.declared.parcel.Parcel.{Parcel}
use Rattle.hy_mail.specs.declared.parcel.Parcel.TheVariants as P
use Rattle.hy_mail.specs.Events.{Event, Full, Put}
use Rattle.hy_driver.specs.Rows.{Row}
use Rattle.hy_connect.specs.declared.writer.Offer.{Offer}
use Rattle.hy_connect.specs.declared.writer.Offer.TheVariants as O
use Rattle.hy_connect.specs.Outlets.{held_of, parcel_rows, waiting_rows}
use Rattle.hy_connect.specs.Writers.{IsAsFar, IsIdle, IsStill, MayGive, may_offer, outlet, receivers}
use Rattle.hy_output.specs.Keeper.{kept_rows}
use Rattle.hy_output.specs.declared.way.Way.{Way}
use Rattle.hy_output.specs.declared.way.Way.TheVariants as W

-- how far its word has come
abbrev pub state_of : Way → WriterState
state_of (W.Wire w) = w.state
state_of (W.Kept k) = k.state

-- how many frames of a bank it holds, and how many more it may need for one that goes on
abbrev pub held_by : Way → ℕ
held_by (W.Wire w) = held_of w.outlets
held_by (W.Kept k) = 0

abbrev pub most_of : Way → ℕ
most_of (W.Wire w) = length w.outlets
most_of (W.Kept k) = 0

-- how many receivers there are
abbrev pub places : Way → ℕ
places (W.Wire w) = receivers w
places (W.Kept k) = 0

-- the parcels that wait for the receiver in a place
abbrev pub waiting : Way → ℕ → List Parcel
waiting (W.Wire w) k = (outlet w k).waits
waiting (W.Kept keeper) k = []

abbrev pub rows_waiting : Way → ℕ → List Row
rows_waiting (W.Wire w) k = waiting_rows (outlet w k)
rows_waiting (W.Kept keeper) k = []

-- no Fail waits for any receiver
abbrev pub HasNoFail : Way → Type 0
HasNoFail way = (k : ℕ) → k < places way → AllByRecursion (λ p. p ≢ P.Fail) (waiting way k)

abbrev pub is_idle : Way → Type 0
is_idle (W.Wire w) = IsIdle w
is_idle (W.Kept k) = Unit {0}

-- the frames that it keeps
abbrev pub frames_of : Way → List FrameOf
frames_of (W.Wire w) = []
frames_of (W.Kept k) = k.frames

-- frames of this arity and unit go over it
abbrev pub HasShape : ℕ → ℕ → Way → Type 0
HasShape arity unit (W.Wire w) = (w.arity ≡ arity) × (w.unit ≡ unit)
HasShape arity unit (W.Kept k) = Unit {0}

-- its rows have so many fields
abbrev pub HasArity : ℕ → Way → Type 0
HasArity arity (W.Wire w) = arity ≡ w.arity
HasArity arity (W.Kept k) = Unit {0}

-- its frames are of this size
abbrev pub HasUnit : ℕ → Way → Type 0
HasUnit unit (W.Wire w) = unit ≡ w.unit
HasUnit unit (W.Kept k) = Unit {0}

-- ---- rows

-- what it may still offer the receiver in a place, and what may still be kept, for the rows that still go on
abbrev pub offers : Way → ℕ → List Row → List Row → Type 0
offers (W.Wire w) k given put = may_offer w k given put
offers (W.Kept keeper) k given put = put ≡ []

abbrev pub keeps : Way → List Row → List Row → Type 0
keeps (W.Wire w) given on = on ≡ []
keeps (W.Kept k) given on = MayGive k.state given × (on ≡ kept_rows k ++ given)

-- the words at the receivers' mailboxes have come as far as it has put them
abbrev pub AreAsFar : (ℕ → WriterState) → Way → Type 0
AreAsFar word (W.Wire w) = IsAsFar word w
AreAsFar word (W.Kept k) = Unit {0}

-- ---- calls

-- what no call changes
abbrev pub Stays : Way → Way → Type 0
Stays (W.Wire w) (W.Wire w') = IsStill w w'
Stays (W.Kept k) (W.Kept k') = Unit {0}
Stays _ _ = ⊥

-- these rows went on: what may go out now, might go out before for these rows and those behind them
pub record Sends (old : Way) (rows : List Row) (new : Way) : Type 0 where
  pub still : Stays old new
  pub offers : (k : ℕ) → k < places old → Continues (offers old k) rows [] (offers new k)
  pub keeps : Continues (keeps old) rows [] (keeps new)
  pub words : (word : ℕ → WriterState) → AreAsFar word old → AreAsFar word new

-- they could not go on: what waits for each receiver is a front of what might have gone out for them and others behind them
pub record Tears (old : Way) (rows : List Row) (new : Way) : Type 0 where
  pub still : Stays old new
  pub fronts : (k : ℕ) → k < places old → (given put : List Row) → offers old k (rows ++ given) put → (rest : List Row) × (put ≡ rows_waiting new k ++ rest)
  pub words : (word : ℕ → WriterState) → AreAsFar word old → AreAsFar word new

-- this parcel waits for each receiver behind the others
abbrev pub Posts : Parcel → Way → Way → Type 0
Posts p old new = (k : ℕ) → k < places old → waiting new k ≡ waiting old k ++ p ∷ []

-- its word ends: what may be offered is what might be, and nothing behind it
pub record Closes (old new : Way) : Type 0 where
  pub still : Stays old new
  pub offers : (k : ℕ) → k < places old → Continues (offers old k) [] [] (offers new k)
  pub keeps : state_of old ≡ Opened → Continues (keeps old) [] [] (keeps new)
  pub words : (word : ℕ → WriterState) → AreAsFar word old → AreAsFar word new

-- it gave up what had not been sent: what waits is all that it still owes
pub record Fails (old new : Way) : Type 0 where
  pub still : Stays old new
  pub posts : Posts P.Fail old new
  pub words : (word : ℕ → WriterState) → AreAsFar word old → AreAsFar word new

-- a call that was lent a port put the first parcel that waits for the receiver in a place
pub record SendsOn (old : Way) (k : ℕ) (p : Parcel) (new : Way) : Type 0 where
  pub still : Stays old new
  pub there : k < places old
  pub state : state_of new ≡ state_of old
  pub first : waiting old k ≡ p ∷ waiting new k
  pub others : (j : ℕ) → j ≢ k → waiting new j ≡ waiting old j
  -- what may be offered to that receiver now, might be offered before behind this parcel's rows, and to the others what might be before
  pub owes : Continues (offers old k) [] (parcel_rows p) (offers new k)
  pub same : (j : ℕ) → j ≢ k → j < places old → Continues (offers old j) [] [] (offers new j)
  pub keeps : Continues (keeps old) [] [] (keeps new)

abbrev pub mailbox_at : Way → ℕ → ℕ
mailbox_at (W.Wire w) k = (outlet w k).mailbox
mailbox_at (W.Kept keeper) k = 0

abbrev pub TellsOffer : {P : Type 0} → (P → Event → P → Type 0) → P → P → Way → Way → Offer → Type 0
TellsOffer happens port port' old new O.Nothing = is_idle old × (new ≡ old) × (port' ≡ port)
TellsOffer happens port port' old new O.Put = (k : ℕ) × (p : Parcel) × SendsOn old k p new × happens port (Put (mailbox_at old k) p) port'
TellsOffer happens port port' old new O.Full = (k : ℕ) × (k < places old) × (waiting old k ≢ []) × (new ≡ old) × happens port (Full (mailbox_at old k)) port'
