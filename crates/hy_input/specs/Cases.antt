-- Small inputs: what they may bring, and what their calls may do and may not.
use Rattle.std.specs.Prelude.{◌≡◌, ℕ, Bool, true, false, List, [], ◌∷◌, Option, Some, None}
use Rattle.hy_frame.specs.Frame.{FrameOf}
use Rattle.hy_job.specs.Runs.{Taken}
use Rattle.hy_driver.specs.Rows.{Row}
use Rattle.hy_connect.specs.Cases.{false_row, frame_of, true_frame, true_row}
use Rattle.hy_connect.specs.MergeCases.{by_first, has_closed, sends_true}
use Rattle.hy_connect.specs.Merges.{merger_of}
use Rattle.hy_connect.specs.Sources.{SourceOf}
use Rattle.hy_input.specs.declared.taker.Taker.TheVariants as T
use Rattle.hy_input.specs.Inputs.{Asks, Closes, ComesAs, Drops, Gets, Gives, GivesUp, HasEnded, HoldsRows, InputOf, IsDone, IsSent, IsStill, KeepsRows, Rests, Wants, brings, closed_at, held, input_of, most}
use Rattle.hy_input.specs.Laws.{HasRowsOf, MayBring}

-- the frame of TRUE and FALSE
abbrev pub two_rows : FrameOf
two_rows = frame_of (((2 ∷ []) ∷ []) ∷ ((1 ∷ []) ∷ []) ∷ [])

-- in partition 1 and with one sender: which have closed, the frame at hand, how many of its rows were gone on to, and whether frames go back at once
abbrev pub of_one : List Bool → Option FrameOf → ℕ → Bool → InputOf
of_one closed frame next given_up = input_of (T.One (record { mailbox = 4; closed = closed })) 1 frame next given_up

-- the same with the senders of all partitions
abbrev pub of_many : List Bool → Option FrameOf → ℕ → Bool → InputOf
of_many closed frame next given_up = input_of (T.Many (record { mailbox = 4; closed = closed })) 1 frame next given_up

abbrev pub of_merge : List SourceOf → Bool → InputOf
of_merge sources given_up = input_of (T.Merge (merger_of by_first sources None given_up)) 1 None 0 false

-- a sender without a frame, that hasn't closed
abbrev pub gave_back : SourceOf
gave_back = record { mailbox = 3; closed = false; frame = None; next = 0 }

-- this row at this input, of the sender of this partition
abbrev pub comes : ℕ → ℕ → Row → Taken
comes input sender row = record { input = input; sender = sender; row = row }

-- of a frame half gone through the other row comes first, then what comes at this input; the row that was gone on to doesn't come again
abbrev pub HandIsBrought : Type 0
HandIsBrought = brings 0 (of_one (false ∷ []) (Some two_rows) 1 false) (comes 0 1 true_row ∷ comes 2 1 true_row ∷ []) (false_row ∷ true_row ∷ [])
    × (brings 0 (of_one (false ∷ []) (Some two_rows) 1 false) (comes 0 1 true_row ∷ []) (true_row ∷ false_row ∷ []) → ⊥)
    × (brings 0 (of_many (false ∷ false ∷ []) (Some two_rows) 1 false) [] (true_row ∷ false_row ∷ []) → ⊥)

-- of two senders that are merged the lesser row comes first, whichever of them sends it, and none of one that has closed
abbrev pub LesserIsBrought : Type 0
LesserIsBrought = brings 0 (of_merge (sends_true 0 ∷ sends_true 1 ∷ []) false) (comes 0 1 false_row ∷ comes 2 0 true_row ∷ []) (false_row ∷ true_row ∷ [])
    × (brings 0 (of_merge (sends_true 0 ∷ sends_true 1 ∷ []) false) (comes 0 1 false_row ∷ []) (true_row ∷ false_row ∷ []) → ⊥)
    × (brings 0 (of_merge (sends_true 0 ∷ has_closed ∷ []) false) (comes 0 1 false_row ∷ []) (false_row ∷ true_row ∷ []) → ⊥)

-- a Close is its sender's: where there is one sender that of the same partition, and else that of the partition of its number
abbrev pub CloseIsItsSenders : Type 0
CloseIsItsSenders = (closed_at (of_one (true ∷ []) None 0 false) 1 ≡ true) × (closed_at (of_one (true ∷ []) None 0 false) 0 ≡ false)
    × (closed_at (of_many (true ∷ false ∷ []) None 0 false) 0 ≡ true) × (closed_at (of_many (true ∷ false ∷ []) None 0 false) 1 ≡ false)
    × (closed_at (of_merge (sends_true 0 ∷ has_closed ∷ []) false) 1 ≡ true) × (closed_at (of_merge (sends_true 0 ∷ has_closed ∷ []) false) 0 ≡ false)
    × (closed_at (of_merge (sends_true 0 ∷ has_closed ∷ []) false) 2 ≡ false)

-- something is wanted where no row is at hand and a sender hasn't closed; of a merge where that is so of one sender
abbrev pub WantedWhereNoneIsLeft : Type 0
WantedWhereNoneIsLeft = Wants (of_many (true ∷ false ∷ []) (Some two_rows) 2 false) × (Wants (of_many (true ∷ false ∷ []) (Some two_rows) 1 false) → ⊥)
    × (Wants (of_many (true ∷ true ∷ []) None 0 false) → ⊥)
    × Wants (of_merge (sends_true 0 ∷ sends_true 1 ∷ sends_true 1 ∷ []) false) × (Wants (of_merge (sends_true 0 ∷ has_closed ∷ []) false) → ⊥)

-- where all senders have closed rows may still be at hand: it has ended and isn't done
abbrev pub DoneWhereNoneIsLeft : Type 0
DoneWhereNoneIsLeft = HasEnded (of_many (true ∷ true ∷ []) (Some two_rows) 1 false) × (IsDone (of_many (true ∷ true ∷ []) (Some two_rows) 1 false) → ⊥)
    × IsDone (of_many (true ∷ true ∷ []) (Some two_rows) 2 false) × (HasEnded (of_many (true ∷ false ∷ []) None 0 false) → ⊥)
    × IsDone (of_merge (has_closed ∷ has_closed ∷ []) false) × (IsDone (of_merge (has_closed ∷ sends_true 1 ∷ []) false) → ⊥)

-- the one sender stands in the input's partition, those of one mailbox by their numbers there, and each that is merged has a mailbox
abbrev pub SendersHavePartitions : Type 0
SendersHavePartitions = IsSent (of_one (false ∷ []) None 0 false) 4 0 1 × (IsSent (of_one (false ∷ []) None 0 false) 4 0 0 → ⊥)
    × IsSent (of_many (false ∷ false ∷ []) None 0 false) 4 1 1 × (IsSent (of_many (false ∷ false ∷ []) None 0 false) 4 0 1 → ⊥)
    × IsSent (of_merge (sends_true 0 ∷ has_closed ∷ []) false) 3 0 1 × (IsSent (of_merge (sends_true 0 ∷ has_closed ∷ []) false) 3 1 1 → ⊥)
    × (IsSent (of_merge (sends_true 0 ∷ has_closed ∷ []) false) 3 0 2 → ⊥)

-- a frame is held until it goes back, whether rows of it are left or not, and a merge holds one of each sender
abbrev pub FramesAreHeld : Type 0
FramesAreHeld = (held (of_one (false ∷ []) (Some two_rows) 2 false) ≡ 1) × (held (of_many (false ∷ false ∷ []) None 0 true) ≡ 0)
    × (held (of_merge (sends_true 0 ∷ has_closed ∷ sends_true 1 ∷ []) false) ≡ 2)

-- all rows of a frame come to hand, and no row of it is lost, nor the frame, and of a merge they come to no other sender's hand;
-- after giving up it goes back, and it stays given up
abbrev pub FramesComeWhole : Type 0
FramesComeWhole = Gets two_rows 1 (of_many (false ∷ false ∷ []) (Some true_frame) 1 false) (of_many (false ∷ false ∷ []) (Some two_rows) 0 false)
    × (Gets two_rows 1 (of_many (false ∷ false ∷ []) (Some true_frame) 1 false) (of_many (false ∷ false ∷ []) (Some two_rows) 1 false) → ⊥)
    × (Gets two_rows 1 (of_many (false ∷ false ∷ []) None 0 false) (of_many (false ∷ false ∷ []) None 0 false) → ⊥)
    × (Gets true_frame 0 (of_merge (sends_true 1 ∷ sends_true 1 ∷ []) false) (of_merge (sends_true 1 ∷ sends_true 0 ∷ []) false) → ⊥)
    × Drops (of_many (false ∷ false ∷ []) None 0 true) (of_many (false ∷ false ∷ []) None 0 true)
    × (Drops (of_many (false ∷ false ∷ []) None 0 true) (of_many (false ∷ false ∷ []) None 0 false) → ⊥)

-- a Close counts for the partition of its sender, and for no other
abbrev pub CloseCountsOnce : Type 0
CloseCountsOnce = Closes 1 (of_many (false ∷ false ∷ []) (Some two_rows) 2 false) (of_many (false ∷ true ∷ []) None 0 false)
    × (Closes 0 (of_many (false ∷ false ∷ []) None 0 false) (of_many (false ∷ true ∷ []) None 0 false) → ⊥)
    × (Closes 1 (of_many (false ∷ false ∷ []) None 0 false) (of_many (true ∷ true ∷ []) None 0 false) → ⊥)
    × Closes 1 (of_one (false ∷ []) None 0 false) (of_one (true ∷ []) None 0 false)
    × (Closes 0 (of_one (false ∷ []) None 0 false) (of_one (true ∷ []) None 0 false) → ⊥)

-- it goes on by one row, and lets go of a frame only where no row of it is left
abbrev pub RowsComeOneByOne : Type 0
RowsComeOneByOne = Gives (of_one (false ∷ []) (Some two_rows) 0 false) (of_one (false ∷ []) (Some two_rows) 1 false)
    × (Gives (of_one (false ∷ []) (Some two_rows) 0 false) (of_one (false ∷ []) (Some two_rows) 2 false) → ⊥)
    × Rests (of_many (false ∷ false ∷ []) (Some two_rows) 2 false) (of_many (false ∷ false ∷ []) None 0 false)
    × (Rests (of_many (false ∷ false ∷ []) (Some two_rows) 1 false) (of_many (false ∷ false ∷ []) None 0 false) → ⊥)

-- no frame is kept, of a merge that of no sender, and it is told that it has given up
abbrev pub GivingUpKeepsNone : Type 0
GivingUpKeepsNone = GivesUp (of_one (false ∷ []) (Some two_rows) 1 false) (of_one (false ∷ []) None 0 true)
    × (GivesUp (of_one (false ∷ []) (Some two_rows) 1 false) (of_one (false ∷ []) (Some two_rows) 1 true) → ⊥)
    × (GivesUp (of_one (false ∷ []) (Some two_rows) 1 false) (of_one (false ∷ []) None 0 false) → ⊥)
    × GivesUp (of_merge (sends_true 0 ∷ sends_true 1 ∷ []) false) (of_merge (gave_back ∷ gave_back ∷ []) true)
    × (GivesUp (of_merge (sends_true 0 ∷ sends_true 1 ∷ []) false) (of_merge (gave_back ∷ sends_true 1 ∷ []) true) → ⊥)

-- rows may come at this input of the second sender, which hasn't closed, and not of the first, nor of one that isn't there
abbrev pub OpenSendersSend : Type 0
OpenSendersSend = MayBring 0 (of_many (true ∷ false ∷ []) None 0 false) (comes 0 1 true_row ∷ comes 2 7 true_row ∷ [])
    × (MayBring 0 (of_many (true ∷ false ∷ []) None 0 false) (comes 0 0 true_row ∷ []) → ⊥)
    × (MayBring 0 (of_many (true ∷ false ∷ []) None 0 false) (comes 0 2 true_row ∷ []) → ⊥)

-- the width is that of the rows at hand, of each sender of a merge
abbrev pub RowsHaveWidth : Type 0
RowsHaveWidth = HasRowsOf (of_one (false ∷ []) (Some two_rows) 0 false) 1 × (HasRowsOf (of_one (false ∷ []) (Some two_rows) 1 false) 2 → ⊥)
    × HasRowsOf (of_one (false ∷ []) (Some two_rows) 2 false) 2 × (HasRowsOf (of_merge (has_closed ∷ sends_true 0 ∷ []) false) 2 → ⊥)

-- a sender of this mailbox with TRUE at hand, of whose frame so many rows were given
abbrev pub from_box : ℕ → ℕ → SourceOf
from_box mailbox next = record { mailbox = mailbox; closed = false; frame = Some true_frame; next = next }

-- of a merge the mailbox of the first sender is asked of which no row is at hand, and of the others the one mailbox
abbrev pub FirstBareIsAsked : Type 0
FirstBareIsAsked = Asks (of_merge (from_box 3 0 ∷ from_box 5 1 ∷ from_box 7 1 ∷ []) false) 5 × (Asks (of_merge (from_box 3 0 ∷ from_box 5 1 ∷ from_box 7 1 ∷ []) false) 3 → ⊥)
    × (Asks (of_merge (from_box 3 0 ∷ from_box 5 1 ∷ from_box 7 1 ∷ []) false) 7 → ⊥)
    × Asks (of_many (true ∷ false ∷ []) None 0 false) 4 × (Asks (of_many (true ∷ false ∷ []) None 0 false) 3 → ⊥)

-- rows at hand are of one width, where some are at hand, and a merge has no frame of its own
abbrev pub RowsAreHeld : Type 0
RowsAreHeld = HoldsRows (of_one (false ∷ []) (Some two_rows) 0 false) 1 × (HoldsRows (of_one (false ∷ []) (Some two_rows) 1 false) 2 → ⊥)
    × HoldsRows (of_many (false ∷ false ∷ []) (Some two_rows) 2 false) 2 × (HoldsRows (of_merge (has_closed ∷ sends_true 0 ∷ []) false) 2 → ⊥)
    × (HoldsRows (input_of (T.Merge (merger_of by_first [] None false)) 1 (Some two_rows) 2 false) 1 → ⊥)

-- where it goes on it has the row that it went on to, and where none comes any more the frame is gone
abbrev pub RowsAreKept : Type 0
RowsAreKept = KeepsRows 1 (of_one (false ∷ []) (Some two_rows) 0 false) (of_one (false ∷ []) (Some two_rows) 1 false) true
    × (KeepsRows 1 (of_one (true ∷ []) (Some two_rows) 2 false) (of_one (true ∷ []) (Some two_rows) 2 false) false → ⊥)

-- a Close and what is at hand change no sender; another mailbox, one sender less and another kind of taker do
abbrev pub SendersStay : Type 0
SendersStay = IsStill (of_many (false ∷ false ∷ []) (Some two_rows) 1 false) (of_many (true ∷ false ∷ []) None 0 true)
    × (IsStill (of_many (false ∷ false ∷ []) None 0 false) (of_many (false ∷ []) None 0 false) → ⊥)
    × (IsStill (of_one (false ∷ []) None 0 false) (of_many (false ∷ []) None 0 false) → ⊥)
    × (IsStill (of_merge (from_box 3 0 ∷ []) false) (of_merge (from_box 5 0 ∷ []) false) → ⊥)

-- the rows of all its mailboxes have so many fields, where it has a sender; of a merge one frame of each sender may be held
abbrev pub MailboxesHaveWidth : Type 0
MailboxesHaveWidth = ComesAs (λ m. m) (of_one (false ∷ []) None 0 false) 4 × (ComesAs (λ m. m) (of_one (false ∷ []) None 0 false) 3 → ⊥)
    × ComesAs (λ m. m) (of_one [] None 0 false) 3 × (ComesAs (λ m. m) (of_merge (from_box 3 0 ∷ from_box 5 0 ∷ []) false) 3 → ⊥)
    × (most (of_one (false ∷ []) None 0 false) ≡ 1) × (most (of_merge (from_box 3 0 ∷ from_box 5 0 ∷ []) false) ≡ 2)
