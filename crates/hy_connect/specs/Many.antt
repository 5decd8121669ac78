-- What is done to all outlets of a writer.
use Rattle.std.specs.Prelude.{◌≡◌, ◌<◌, ◌≤◌, ◌+◌, ℕ, List, [], ◌∷◌, length, slice_index_or, None}
use Rattle.hy_mail.specs.declared.parcel.Parcel.{Parcel}
use Rattle.hy_mail.specs.declared.parcel.Parcel.TheVariants as P
use Rattle.hy_driver.specs.Rows.{Row}
use Rattle.hy_connect.specs.declared.outlets.Mark.{Mark}
use Rattle.hy_connect.specs.declared.outlets.Mark.TheVariants as M
use Rattle.hy_job.specs.Columns.{part_of}
use Rattle.hy_connect.specs.declared.route.Route.{Route}
use Rattle.hy_connect.specs.declared.route.Route.TheVariants as R
use Rattle.hy_connect.specs.Routes.{sent_by}
use Rattle.hy_connect.specs.Outlets.{OutletOf, Adds, Cuts, IsOutlet, held_in, outlet_at}

abbrev pub parcel_of : Mark → Parcel
parcel_of M.Open = P.Open
parcel_of M.Fail = P.Fail
parcel_of M.Close = P.Close

-- a new outlet to this mailbox
pub record IsFresh (mailbox : ℕ) (o : OutletOf) : Type 0 where
  pub mailbox_is : o.mailbox ≡ mailbox
  pub filling : o.filling ≡ None
  pub waits : o.waits ≡ []
  pub spare : 3 ≤ o.spare

pub record AreFresh (boxes : List ℕ) (outlets : List OutletOf) : Type 0 where
  pub count : length outlets ≡ length boxes
  pub each : (k : ℕ) → k < length boxes → IsFresh (slice_index_or boxes k 0) (outlet_at outlets k)

-- each outlet has room for so many parcels
abbrev pub HaveRoom : ℕ → List OutletOf → Type 0
HaveRoom n outlets = (k : ℕ) → k < length outlets → n ≤ (outlet_at outlets k).spare

-- and for the frame that it fills
abbrev pub HaveRoomToo : List OutletOf → Type 0
HaveRoomToo outlets = (k : ℕ) → k < length outlets → held_in (outlet_at outlets k).filling + 1 ≤ (outlet_at outlets k).spare

-- this became of each
pub record Each (f : OutletOf → OutletOf) (old new : List OutletOf) : Type 0 where
  pub count : length new ≡ length old
  pub each : (k : ℕ) → k < length old → outlet_at new k ≡ f (outlet_at old k)

-- this became of those before a place, and the others are as they were
pub record Front (f : OutletOf → OutletOf) (n : ℕ) (old new : List OutletOf) : Type 0 where
  pub count : length new ≡ length old
  pub done : (k : ℕ) → k < n → k < length old → outlet_at new k ≡ f (outlet_at old k)
  pub left : (k : ℕ) → n ≤ k → outlet_at new k ≡ outlet_at old k

-- at most so many parcels more wait in each
abbrev pub MoreWait : ℕ → List OutletOf → List OutletOf → Type 0
MoreWait n old new = (k : ℕ) → k < length old → length (outlet_at new k).waits ≤ length (outlet_at old k).waits + n

-- ---- rows

abbrev pub AreOutlets : ℕ → List OutletOf → Type 0
AreOutlets arity outlets = (k : ℕ) → k < length outlets → IsOutlet arity 2 (outlet_at outlets k)

-- none fills a frame
abbrev pub FillNone : List OutletOf → Type 0
FillNone outlets = (k : ℕ) → k < length outlets → (outlet_at outlets k).filling ≡ None

-- each took what goes to it of these rows
pub record Spreads (route : Route) (arity : ℕ) (old : List OutletOf) (rows : List Row) (new : List OutletOf) : Type 0 where
  pub count : length new ≡ length old
  pub each : (k : ℕ) → k < length old → Adds arity (outlet_at old k) (sent_by route (length old) k rows) (outlet_at new k)

-- what waits in each is a front of what it owed and of what goes to it of these rows
pub record Rips (route : Route) (arity : ℕ) (old : List OutletOf) (rows : List Row) (new : List OutletOf) : Type 0 where
  pub count : length new ≡ length old
  pub each : (k : ℕ) → k < length old → Cuts arity (outlet_at old k) (sent_by route (length old) k rows) (outlet_at new k)

-- the outlet in this place took a row, as it does of those whose hash names it
abbrev pub SpreadsTo : ℕ → ℕ → List OutletOf → Row → List OutletOf → Type 0
SpreadsTo k arity old row new = (columns : List ℕ) → k ≡ part_of (length old) columns row → Spreads (R.ByHash columns) arity old (row ∷ []) new

-- it could not take all of the row
abbrev pub RipsTo : ℕ → ℕ → List OutletOf → Row → List OutletOf → Type 0
RipsTo k arity old row new = (columns : List ℕ) → k ≡ part_of (length old) columns row → Rips (R.ByHash columns) arity old (row ∷ []) new

-- those before a place took these rows
pub record FrontAdds (arity n : ℕ) (old : List OutletOf) (rows : List Row) (new : List OutletOf) : Type 0 where
  pub count : length new ≡ length old
  pub done : (k : ℕ) → k < n → k < length old → Adds arity (outlet_at old k) rows (outlet_at new k)
  pub left : (k : ℕ) → n ≤ k → outlet_at new k ≡ outlet_at old k
  pub none : FillNone new
