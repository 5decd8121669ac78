-- What a merging taker knows of one of its senders.
use Rattle.std.specs.Prelude.{◌≡◌, ◌≢◌, ◌⊎◌, ◌<◌, ◌≤◌, ◌+◌, ◌-◌, ℕ, Bool, true, false, List, [], ◌∷◌, length, drop, slice_index_or, Option, Some, None, if◌then◌else◌}
use Rattle.al_value.specs.declared.settings.SortKey.{SortKey}
use Rattle.std.specs.Ordering.{is_lt}
use Rattle.hy_driver.specs.Rows.{values_of}
use Rattle.hy_frame.specs.Bank.{BankOf, one_more}
use Rattle.hy_frame.specs.Frame.{FrameOf}
use Rattle.hy_frame.specs.FrameText.{AllRows}
use Rattle.hy_frame.specs.Row.{Fields}
use Rattle.hy_job.specs.Columns.{keys_cmp}
use Rattle.hy_mail.specs.declared.parcel.Parcel.{Parcel}
use Rattle.hy_mail.specs.declared.parcel.Parcel.TheVariants as P
use Rattle.hy_mail.specs.Events.{Event, Empty, Took}
use Rattle.hy_connect.specs.declared.taker.Taken.{Taken}
use Rattle.hy_connect.specs.declared.taker.Taken.TheVariants as T
use Rattle.hy_connect.specs.Outlets.{held_in}

pub record SourceOf : Type 0 where
  -- the number of the sender's mailbox
  pub mailbox : ℕ
  -- whether its Close was taken
  pub closed : Bool
  -- the frame at hand, where there is one, and how many of its rows were given
  pub frame : Option FrameOf
  pub next : ℕ

abbrev pub no_source : SourceOf
no_source = record { mailbox = 0; closed = true; frame = None; next = 0 }

-- that of the sender in this place; past the last one it has closed
abbrev pub source_at : List SourceOf → ℕ → SourceOf
source_at sources s = slice_index_or sources s no_source

-- ---- rows at hand

abbrev pub frame_rows : Option FrameOf → List Fields
frame_rows None = []
frame_rows (Some f) = f.rows

-- the rows at hand that were not given yet
abbrev pub hand : SourceOf → List Fields
hand x = drop x.next (frame_rows x.frame)

-- the row that was given last
abbrev pub given : SourceOf → Fields
given x = slice_index_or (frame_rows x.frame) (x.next - 1) []

-- such a row is at hand
pub record HasGiven (x : SourceOf) : Type 0 where
  pub some : 0 < x.next
  pub there : x.next ≤ length (frame_rows x.frame)

-- the sender hasn't closed, and no row of it is at hand
pub record Lacks (x : SourceOf) : Type 0 where
  pub going : x.closed ≡ false
  pub none : hand x ≡ []

abbrev pub NoneLacks : List SourceOf → Type 0
NoneLacks sources = (s : ℕ) → s < length sources → Lacks (source_at sources s) → ⊥

-- the first one of which a row is wanted
pub record IsWanted (sources : List SourceOf) (s : ℕ) : Type 0 where
  pub there : s < length sources
  pub lacks : Lacks (source_at sources s)
  pub first : (j : ℕ) → j < s → Lacks (source_at sources j) → ⊥

-- every sender's Close was taken; so it is where there is no sender
abbrev pub AllClosed : List SourceOf → Type 0
AllClosed sources = (s : ℕ) → s < length sources → (source_at sources s).closed ≡ true

-- each row at hand is one of so many fields
abbrev pub HoldRows : ℕ → List SourceOf → Type 0
HoldRows width sources = (s : ℕ) → s < length sources → AllRows width (hand (source_at sources s))

-- no row is at hand
abbrev pub NoneAtHand : List SourceOf → Type 0
NoneAtHand sources = (s : ℕ) → s < length sources → hand (source_at sources s) ≡ []

-- ---- the least row

abbrev pub first_of : List Fields → Option Fields
first_of [] = None
first_of (row ∷ rows) = Some row

abbrev pub first_at : List SourceOf → ℕ → Option Fields
first_at sources s = first_of (hand (source_at sources s))

-- whether one row is less than another; none is more than any
abbrev pub is_before : List SortKey → Option Fields → Option Fields → Bool
is_before keys None b = false
is_before keys (Some a) None = true
is_before keys (Some a) (Some b) = is_lt (keys_cmp keys (values_of a) (values_of b))

-- the first row of the sender in this place is there, and no other sender's first row is less
pub record IsLeast (keys : List SortKey) (sources : List SourceOf) (k : ℕ) : Type 0 where
  pub there : k < length sources
  pub some : first_at sources k ≢ None
  pub least : (j : ℕ) → j < length sources → is_before keys (first_at sources j) (first_at sources k) ≡ false

abbrev pub TellsLeast : List SortKey → List SourceOf → Option ℕ → Type 0
TellsLeast keys sources None = NoneAtHand sources
TellsLeast keys sources (Some k) = IsLeast keys sources k

-- the first row in the place that was found, if one was
abbrev pub first_in : List SourceOf → Option ℕ → Option Fields
first_in sources None = None
first_in sources (Some k) = first_at sources k

-- this place, where its first row is less than that of the place that was found
abbrev pub lesser_of : List SortKey → List SourceOf → ℕ → Option ℕ → Option ℕ
lesser_of keys sources k least = if is_before keys (first_at sources k) (first_in sources least) then Some k else least

-- ---- frames

-- how many frames are at hand
abbrev pub frames_held : List SourceOf → ℕ
frames_held [] = 0
frames_held (x ∷ xs) = held_in x.frame + frames_held xs

-- after a call that gave frames back: as many frames less are out as are held less
pub record Returns (held held' : ℕ) (bank bank' : BankOf) : Type 0 where
  pub out : bank'.out + held ≡ bank.out + held'
  pub unit : bank'.unit ≡ bank.unit
  pub limit : bank'.limit ≡ bank.limit
  pub taken : bank'.taken ≡ bank.taken
  pub exported : bank'.exported ≡ bank.exported
  pub imported : bank'.imported ≡ bank.imported

-- and a frame came in
pub record Brings (held held' : ℕ) (bank bank' : BankOf) : Type 0 where
  pub out : bank'.out + held ≡ bank.out + held'
  pub unit : bank'.unit ≡ bank.unit
  pub limit : bank'.limit ≡ bank.limit
  pub taken : bank'.taken ≡ bank.taken
  pub exported : bank'.exported ≡ bank.exported
  pub imported : bank'.imported ≡ one_more bank.imported

-- ---- changes of one

abbrev pub new_source : ℕ → SourceOf
new_source mailbox = record { mailbox = mailbox; closed = false; frame = None; next = 0 }

-- without its frame
abbrev pub bare : SourceOf → SourceOf
bare x = record { mailbox = x.mailbox; closed = x.closed; frame = None; next = x.next }

-- with its Close
abbrev pub closing : SourceOf → SourceOf
closing x = record { mailbox = x.mailbox; closed = true; frame = x.frame; next = x.next }

-- with a frame of which no row was given
abbrev pub keeping : FrameOf → SourceOf → SourceOf
keeping f x = record { mailbox = x.mailbox; closed = x.closed; frame = Some f; next = 0 }

-- with one row more given
abbrev pub advanced : SourceOf → SourceOf
advanced x = record { mailbox = x.mailbox; closed = x.closed; frame = x.frame; next = x.next + 1 }

-- a frame of which all rows were given has gone back
pub record LetsGo (old new : SourceOf) : Type 0 where
  pub mailbox : new.mailbox ≡ old.mailbox
  pub closed : new.closed ≡ old.closed
  pub hand_is : hand new ≡ hand old
  pub none : hand old ≡ [] → new.frame ≡ None

-- what a take from a mailbox with one sender came to
abbrev pub TellsOne : {P : Type 0} → (P → Event → P → Type 0) → P → ℕ → P → Option Parcel → Type 0
TellsOne happens port m port' None = happens port (Empty m) port'
TellsOne happens port m port' (Some p) = happens port (Took m 0 p) port'

-- what a take from one sender tells; the frame that was there goes back
abbrev pub TellsTake : {P : Type 0} → (P → Event → P → Type 0) → P → P → BankOf → BankOf → Bool → SourceOf → SourceOf → Taken → Type 0
TellsTake happens port port' bank bank' up old new T.Empty = (new ≡ bare old) × Returns (held_in old.frame) 0 bank bank' × happens port (Empty old.mailbox) port'
TellsTake happens port port' bank bank' up old new (T.Frame f) =
    (up ≡ true) × (new ≡ bare old) × Brings (held_in old.frame) 1 bank bank' × happens port (Took old.mailbox 0 (P.Frame f)) port'
TellsTake happens port port' bank bank' up old new T.Kept =
    (up ≡ false) × ((f : FrameOf) × (new ≡ keeping f old) × Brings (held_in old.frame) 1 bank bank' × happens port (Took old.mailbox 0 (P.Frame f)) port')
TellsTake happens port port' bank bank' up old new T.Word =
    Returns (held_in old.frame) 0 bank bank'
    × (((new ≡ bare old) × happens port (Took old.mailbox 0 P.Open) port') ⊎ ((new ≡ closing (bare old)) × happens port (Took old.mailbox 0 P.Close) port'))
TellsTake happens port port' bank bank' up old new T.Failed = (new ≡ bare old) × Returns (held_in old.frame) 0 bank bank' × happens port (Took old.mailbox 0 P.Fail) port'
TellsTake happens port port' bank bank' up old new T.Ended = ⊥

-- ---- changes of all

pub record AreNew (boxes : List ℕ) (sources : List SourceOf) : Type 0 where
  pub count : length sources ≡ length boxes
  pub each : (s : ℕ) → s < length boxes → source_at sources s ≡ new_source (slice_index_or boxes s 0)

-- each frame of which all rows were given has gone back
pub record LetGo (old new : List SourceOf) : Type 0 where
  pub count : length new ≡ length old
  pub each : (s : ℕ) → s < length old → LetsGo (source_at old s) (source_at new s)

-- those before a place have let go
pub record LetGoBefore (n : ℕ) (old new : List SourceOf) : Type 0 where
  pub count : length new ≡ length old
  pub done : (s : ℕ) → s < n → s < length old → LetsGo (source_at old s) (source_at new s)
  pub left : (s : ℕ) → n ≤ s → source_at new s ≡ source_at old s

-- each frame has gone back
pub record AreBare (old new : List SourceOf) : Type 0 where
  pub count : length new ≡ length old
  pub each : (s : ℕ) → s < length old → source_at new s ≡ bare (source_at old s)

pub record AreBareBefore (n : ℕ) (old new : List SourceOf) : Type 0 where
  pub count : length new ≡ length old
  pub done : (s : ℕ) → s < n → s < length old → source_at new s ≡ bare (source_at old s)
  pub left : (s : ℕ) → n ≤ s → source_at new s ≡ source_at old s
