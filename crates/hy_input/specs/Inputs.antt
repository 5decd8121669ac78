-- What contracts see of an input of a task, and what its calls do to the rows that it may still bring.
use Rattle.std.specs.Prelude.{◌≡◌, ◌≢◌, ◌⊎◌, ◌<◌, ◌≤◌, ◌+◌, ◌-◌, ℕ, nat_eq, nat_lt, Bool, true, false, ◌&&◌, ◌||◌, List, [], ◌∷◌, ◌++◌, map, filter, length, drop, slice_index_or, Option, Some, None}
use Rattle.hy_frame.specs.Bank.{BankOf}
use Rattle.hy_frame.specs.Frame.{FrameOf}
use Rattle.hy_frame.specs.FrameText.{AllRows}
use Rattle.hy_frame.specs.Row.{Fields, IsRow}
use Rattle.hy_rest.specs.Rest.{Continues}
use Rattle.hy_job.specs.Runs.{Taken as TakenRow, rows_at}
use Rattle.hy_mail.specs.declared.parcel.Parcel.TheVariants as P
use Rattle.hy_mail.specs.Events.{Event, Empty, Took}
use Rattle.hy_driver.specs.Rows.{Row, values_of}
use Rattle.hy_connect.specs.Outlets.{held_in}
use Rattle.hy_connect.specs.declared.taker.Taken.{Taken}
use Rattle.hy_connect.specs.Takers.{HaveClosed, IsGoing, TellsTaken}
use Rattle.hy_connect.specs.Sources.{AllClosed, Brings, HoldRows, IsWanted, NoneAtHand, Returns, frame_rows, frames_held}
use Rattle.hy_connect.specs.Merges as M
use Rattle.hy_connect.specs.Merges.{BeginsBy, MergerOf, StaysMerger, current_row, may_give, rows_taken, senders, source}
use Rattle.hy_input.specs.declared.taker.Taker.{Taker}
use Rattle.hy_input.specs.declared.taker.Taker.TheVariants as T
use Rattle.hy_input.specs.declared.input.Came.{Came}
use Rattle.hy_input.specs.declared.input.Came.TheVariants as C

pub record InputOf : Type 0 where
  pub taker : Taker
  -- the partition of the one sender
  pub from : ℕ
  -- the frame at hand, where there is one, and how many of its rows were gone on to; a merge has those of its senders itself
  pub frame : Option FrameOf
  pub next : ℕ
  -- whether frames go back at once; a merge knows that itself
  pub given_up : Bool

abbrev pub input_of : Taker → ℕ → Option FrameOf → ℕ → Bool → InputOf
input_of taker from frame next given_up = record { taker = taker; from = from; frame = frame; next = next; given_up = given_up }

-- ---- rows

-- the rows at hand that are still to be gone on to, where it doesn't merge
abbrev pub hand : InputOf → List Fields
hand x = drop x.next (frame_rows x.frame)

-- those of an input
abbrev pub only_at : ℕ → List TakenRow → List TakenRow
only_at k took = filter (λ t. nat_eq t.input k) took

-- what a taker may still bring at the input of this number, with these rows at hand, for the rows that are still to come
abbrev pub brings_by : Taker → ℕ → List Row → List TakenRow → List Row → Type 0
brings_by (T.One t) k at_hand took rows = rows ≡ at_hand ++ rows_at k took
brings_by (T.Many t) k at_hand took rows = rows ≡ at_hand ++ rows_at k took
brings_by (T.Merge m) k at_hand took rows = may_give m k (only_at k took) rows

abbrev pub brings : ℕ → InputOf → List TakenRow → List Row → Type 0
brings k x = brings_by x.taker k (map values_of (hand x))

-- ---- senders

-- whether the Close of the sender of a partition was taken
abbrev pub closed_by : Taker → ℕ → ℕ → Bool
closed_by (T.One t) from p = nat_eq p from && slice_index_or t.closed 0 false
closed_by (T.Many t) from p = slice_index_or t.closed p false
closed_by (T.Merge m) from p = nat_lt p (senders m) && (source m p).closed

abbrev pub closed_at : InputOf → ℕ → Bool
closed_at x p = closed_by x.taker x.from p

-- every sender's Close was taken
abbrev pub ended_by : Taker → Type 0
ended_by (T.One t) = HaveClosed t.closed
ended_by (T.Many t) = HaveClosed t.closed
ended_by (T.Merge m) = AllClosed m.sources

abbrev pub HasEnded : InputOf → Type 0
HasEnded x = ended_by x.taker

-- a sender is there, which the mailbox of this number knows by that one, in this partition
abbrev pub sends_by : Taker → ℕ → ℕ → ℕ → ℕ → Type 0
sends_by (T.One t) from m n p = (m ≡ t.mailbox) × (n < length t.closed) × (p ≡ from)
sends_by (T.Many t) from m n p = (m ≡ t.mailbox) × (n < length t.closed) × (p ≡ n)
sends_by (T.Merge g) from m n p = (p < senders g) × (m ≡ (source g p).mailbox) × (n ≡ 0)

abbrev pub IsSent : InputOf → ℕ → ℕ → ℕ → Type 0
IsSent x m n p = sends_by x.taker x.from m n p

-- where there is one sender, there are not more
abbrev pub HasOne : Taker → Type 0
HasOne (T.One t) = length t.closed ≤ 1
HasOne (T.Many t) = Unit {0}
HasOne (T.Merge m) = Unit {0}

-- what is true of each
abbrev pub IsInput : InputOf → Type 0
IsInput x = HasOne x.taker

-- how many frames of a bank it holds
abbrev pub held_by : Taker → ℕ
held_by (T.One t) = 0
held_by (T.Many t) = 0
held_by (T.Merge m) = frames_held m.sources

abbrev pub held : InputOf → ℕ
held x = held_in x.frame + held_by x.taker

-- frames that come go back at once
abbrev pub up_by : Taker → Bool → Bool
up_by (T.One t) up = up
up_by (T.Many t) up = up
up_by (T.Merge m) up = m.given_up

abbrev pub has_given_up : InputOf → Bool
has_given_up x = up_by x.taker x.given_up

-- ---- what comes next

-- nothing can be gone on to before something is taken
abbrev pub wants_by : Taker → List Fields → Type 0
wants_by (T.One t) at_hand = (at_hand ≡ []) × IsGoing t.closed
wants_by (T.Many t) at_hand = (at_hand ≡ []) × IsGoing t.closed
wants_by (T.Merge m) at_hand = (s : ℕ) × IsWanted m.sources s

abbrev pub Wants : InputOf → Type 0
Wants x = wants_by x.taker (hand x)

-- the mailbox that it asks for what comes next; of a merge that of the first sender of which a row is wanted
abbrev pub asks_by : Taker → ℕ → Type 0
asks_by (T.One t) m = m ≡ t.mailbox
asks_by (T.Many t) m = m ≡ t.mailbox
asks_by (T.Merge g) m = (s : ℕ) × IsWanted g.sources s × (m ≡ (source g s).mailbox)

abbrev pub Asks : InputOf → ℕ → Type 0
Asks x m = asks_by x.taker m

-- it asks the mailbox of this number for what comes next, which knows a sender in this partition by that number
abbrev pub IsAsked : InputOf → ℕ → ℕ → ℕ → Type 0
IsAsked x m n p = IsSent x m n p × Asks x m

-- every sender has closed and no row is at hand
abbrev pub done_by : Taker → List Fields → Type 0
done_by (T.One t) at_hand = HaveClosed t.closed × (at_hand ≡ [])
done_by (T.Many t) at_hand = HaveClosed t.closed × (at_hand ≡ [])
done_by (T.Merge m) at_hand = AllClosed m.sources × NoneAtHand m.sources

abbrev pub IsDone : InputOf → Type 0
IsDone x = done_by x.taker (hand x)

-- the row that was gone on to
abbrev pub given_by : Taker → Option FrameOf → ℕ → Fields
given_by (T.One t) frame next = slice_index_or (frame_rows frame) (next - 1) []
given_by (T.Many t) frame next = slice_index_or (frame_rows frame) (next - 1) []
given_by (T.Merge m) frame next = current_row m

abbrev pub given : InputOf → Fields
given x = given_by x.taker x.frame x.next

-- it has gone on to a row, and nothing was taken since
abbrev pub has_given : Taker → Option FrameOf → ℕ → Type 0
has_given (T.One t) frame next = (0 < next) × (next ≤ length (frame_rows frame))
has_given (T.Many t) frame next = (0 < next) × (next ≤ length (frame_rows frame))
has_given (T.Merge m) frame next = m.current ≢ None

abbrev pub HasGiven : InputOf → Type 0
HasGiven x = has_given x.taker x.frame x.next

-- the task is the receiver of its mailboxes, of which each has so many senders
abbrev pub ReceivesBy : (ℕ → Type 0) → (ℕ → ℕ) → Taker → Type 0
ReceivesBy receives count (T.One t) = IsGoing t.closed → receives t.mailbox × (count t.mailbox ≡ length t.closed)
ReceivesBy receives count (T.Many t) = IsGoing t.closed → receives t.mailbox × (count t.mailbox ≡ length t.closed)
ReceivesBy receives count (T.Merge m) = (s : ℕ) → s < senders m → receives (source m s).mailbox × (count (source m s).mailbox ≡ 1)

-- ---- rows at hand

-- each is one of so many fields
abbrev pub hold_by : Taker → List Fields → ℕ → Type 0
hold_by (T.One t) at_hand width = AllRows width at_hand
hold_by (T.Many t) at_hand width = AllRows width at_hand
hold_by (T.Merge m) at_hand width = HoldRows width m.sources

-- a merge has no frame beside those of its senders
abbrev pub lone_by : Taker → Option FrameOf → Type 0
lone_by (T.One t) frame = Unit {0}
lone_by (T.Many t) frame = Unit {0}
lone_by (T.Merge m) frame = frame ≡ None

pub record HoldsRows (x : InputOf) (width : ℕ) : Type 0 where
  pub rows : hold_by x.taker (hand x) width
  pub lone : lone_by x.taker x.frame

-- at most so many frames of a bank are held
abbrev pub most_by : Taker → ℕ
most_by (T.One t) = 1
most_by (T.Many t) = 1
most_by (T.Merge m) = senders m

abbrev pub most : InputOf → ℕ
most x = most_by x.taker

-- the rows of its mailboxes have so many fields
abbrev pub ComesAs : (ℕ → ℕ) → InputOf → ℕ → Type 0
ComesAs arity x width = (m n p : ℕ) → IsSent x m n p → arity m ≡ width

-- ---- calls

-- what no call changes
abbrev pub still_by : Taker → Taker → Type 0
still_by (T.One t) (T.One t') = (t'.mailbox ≡ t.mailbox) × (length t'.closed ≡ length t.closed)
still_by (T.Many t) (T.Many t') = (t'.mailbox ≡ t.mailbox) × (length t'.closed ≡ length t.closed)
still_by (T.Merge m) (T.Merge m') = StaysMerger m m'
still_by _ _ = ⊥

pub record IsStill (old new : InputOf) : Type 0 where
  pub taker : still_by old.taker new.taker
  pub from : new.from ≡ old.from

-- its senders are what they were
pub record Stays (old new : InputOf) : Type 0 where
  pub from : new.from ≡ old.from
  pub sends : (m n p : ℕ) → IsSent old m n p → IsSent new m n p
  pub sent : (m n p : ℕ) → IsSent new m n p → IsSent old m n p

-- it may bring what it might
pub record Rests (old new : InputOf) : Type 0 where
  pub stays : Stays old new
  pub given_up : has_given_up new ≡ has_given_up old
  pub closed : (p : ℕ) → closed_at new p ≡ closed_at old p
  pub brings : (k : ℕ) → Continues (brings k old) [] [] (brings k new)

-- the rows of a frame of this partition came to hand
pub record Gets (f : FrameOf) (p : ℕ) (old new : InputOf) : Type 0 where
  pub stays : Stays old new
  pub given_up : has_given_up new ≡ has_given_up old
  pub closed : (q : ℕ) → closed_at new q ≡ closed_at old q
  pub brings : (k : ℕ) → Continues (brings k old) (rows_taken k p f) [] (brings k new)

-- a frame went back at once
pub record Drops (old new : InputOf) : Type 0 where
  pub stays : Stays old new
  pub given_up : has_given_up new ≡ has_given_up old
  pub closed : (q : ℕ) → closed_at new q ≡ closed_at old q

-- the sender of this partition has closed
pub record Closes (p : ℕ) (old new : InputOf) : Type 0 where
  pub stays : Stays old new
  pub given_up : has_given_up new ≡ has_given_up old
  pub closed : (q : ℕ) → closed_at new q ≡ (nat_eq q p || closed_at old q)
  pub brings : (k : ℕ) → Continues (brings k old) [] [] (brings k new)

-- it went on to a row
pub record Gives (old new : InputOf) : Type 0 where
  pub stays : Stays old new
  pub given_up : has_given_up new ≡ has_given_up old
  pub closed : (p : ℕ) → closed_at new p ≡ closed_at old p
  pub there : HasGiven new
  pub brings : (k : ℕ) → Continues (brings k old) [] (values_of (given new) ∷ []) (brings k new)

-- every sender has closed and no row is at hand
pub record IsOver (old new : InputOf) : Type 0 where
  pub ended : HasEnded old
  pub done : IsDone new
  pub rests : Rests old new
  pub none : (k : ℕ) → brings k new [] []

-- all frames went back
pub record GivesUp (old new : InputOf) : Type 0 where
  pub stays : Stays old new
  pub given_up : has_given_up new ≡ true
  pub closed : (p : ℕ) → closed_at new p ≡ closed_at old p
  pub held : held new ≡ 0

abbrev pub TellsAdvanced : InputOf → InputOf → Bool → Type 0
TellsAdvanced old new true = Gives old new
TellsAdvanced old new false = IsOver old new

-- rows at hand stay rows of so many fields, and so is the one that it went on to; where none comes any more, no frame is held
pub record KeepsRows (width : ℕ) (old new : InputOf) (some : Bool) : Type 0 where
  pub holds : HoldsRows new width
  pub row : some ≡ true → IsRow width (given new)
  pub empty : some ≡ false → held new ≡ 0

-- rows came to hand, or were given back at once
abbrev pub TellsRows : FrameOf → ℕ → InputOf → InputOf → Bool → Type 0
TellsRows f p old new false = Gets f p old new
TellsRows f p old new true = Drops old new

-- what an answer of `take` tells
abbrev pub TellsCame : {P : Type 0} → (P → Event → P → Type 0) → P → P → InputOf → InputOf → Came → Type 0
TellsCame happens port port' old new C.Empty = (m n p : ℕ) × IsAsked old m n p × Rests old new × happens port (Empty m) port'
TellsCame happens port port' old new C.Rows = (m n p : ℕ) × (f : FrameOf) × IsAsked old m n p × TellsRows f p old new (has_given_up old) × happens port (Took m n (P.Frame f)) port'
TellsCame happens port port' old new C.Word =
    (m n p : ℕ) × IsAsked old m n p × ((Rests old new × happens port (Took m n P.Open) port') ⊎ (Closes p old new × happens port (Took m n P.Close) port'))
TellsCame happens port port' old new C.Failed = (m n p : ℕ) × IsAsked old m n p × Rests old new × happens port (Took m n P.Fail) port'

-- what became of the bank of which it holds so many frames: where rows came, a frame came in
abbrev pub TellsBank : ℕ → ℕ → BankOf → BankOf → Came → Type 0
TellsBank held held' bank bank' C.Empty = Returns held held' bank bank'
TellsBank held held' bank bank' C.Rows = Brings held held' bank bank'
TellsBank held held' bank bank' C.Word = Returns held held' bank bank'
TellsBank held held' bank bank' C.Failed = Returns held held' bank bank'

-- ---- inside

-- it is no merge
abbrev pub IsPlain : Taker → Type 0
IsPlain (T.One t) = Unit {0}
IsPlain (T.Many t) = Unit {0}
IsPlain (T.Merge m) = ⊥

-- what a take tells where it isn't merged
abbrev pub TellsTakenBy : {P : Type 0} → (P → Event → P → Type 0) → P → P → BankOf → BankOf → Taker → Taker → Taken → Type 0
TellsTakenBy happens port port' bank bank' (T.One t) (T.One t') answer = TellsTaken happens port port' bank bank' t t' answer
TellsTakenBy happens port port' bank bank' (T.Many t) (T.Many t') answer = TellsTaken happens port port' bank bank' t t' answer
TellsTakenBy happens port port' bank bank' _ _ answer = ⊥

-- with a frame at hand, or without where frames go back at once
abbrev pub kept_by : Bool → FrameOf → InputOf → InputOf
kept_by true f x = x
kept_by false f x = input_of x.taker x.from (Some f) 0 x.given_up

-- rows of a sender came to hand, or went back at once
abbrev pub TellsRowsOfMerge : ℕ → FrameOf → MergerOf → MergerOf → Bool → Type 0
TellsRowsOfMerge s f old new false = M.Gets s f old new
TellsRowsOfMerge s f old new true = M.Rests old new

-- what a take of a merge tells
abbrev pub TellsTakenOfMerge : {P : Type 0} → (P → Event → P → Type 0) → P → P → MergerOf → MergerOf → Came → Type 0
TellsTakenOfMerge happens port port' old new C.Empty = (s : ℕ) × IsWanted old.sources s × M.Rests old new × happens port (Empty (source old s).mailbox) port'
TellsTakenOfMerge happens port port' old new C.Rows =
    (s : ℕ) × (f : FrameOf) × IsWanted old.sources s × TellsRowsOfMerge s f old new old.given_up × happens port (Took (source old s).mailbox 0 (P.Frame f)) port'
TellsTakenOfMerge happens port port' old new C.Word =
    (s : ℕ) × IsWanted old.sources s
    × ((M.Rests old new × happens port (Took (source old s).mailbox 0 P.Open) port') ⊎ (M.Closes s old new × happens port (Took (source old s).mailbox 0 P.Close) port'))
TellsTakenOfMerge happens port port' old new C.Failed = (s : ℕ) × IsWanted old.sources s × M.Rests old new × happens port (Took (source old s).mailbox 0 P.Fail) port'
