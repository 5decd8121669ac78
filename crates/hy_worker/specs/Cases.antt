-- Small pipelines: what is true of them between calls, and what their calls may tell and may not.
use Rattle.std.specs.Prelude.{◌≡◌, ℕ, Bool, true, false, List, [], ◌∷◌, Some, None, Ok, Err, Option}
use Rattle.hy_frame.specs.Bank.{BankOf}
use Rattle.hy_frame.specs.Frame.{FrameOf}
use Rattle.hy_frame.specs.declared.writer.WriterState.{WriterState}
use Rattle.hy_frame.specs.declared.writer.WriterState.TheVariants.{Opened, Failed, Closed}
use Rattle.hy_mail.specs.declared.parcel.Parcel.TheVariants as P
use Rattle.hy_mail.specs.Events.{Event}
use Rattle.hy_store.specs.declared.fault.Next.TheVariants as N
use Rattle.hy_store.specs.declared.fault.OpFault.TheVariants as F
use Rattle.hy_driver.specs.Rows.{Fed, Row}
use Rattle.hy_driver.specs.Seen.{Fixed, Seen}
use Rattle.hy_driver.specs.Forms.{storeless}
use Rattle.hy_driver.specs.declared.phase.Phase.{Phase}
use Rattle.hy_driver.specs.declared.phase.Phase.TheVariants.{Working, Hungry, GivenUp}
use Rattle.hy_connect.specs.Cases.{true_frame}
use Rattle.hy_connect.specs.Merges.{merger_of}
use Rattle.hy_connect.specs.declared.writer.Offer.TheVariants as O
use Rattle.hy_output.specs.declared.way.Way.TheVariants as W
use Rattle.hy_output.specs.Cases.{writing}
use Rattle.hy_output.specs.Outputs.{OutputOf, output_of}
use Rattle.hy_input.specs.declared.input.Came.TheVariants as C
use Rattle.hy_input.specs.declared.taker.Taker.{Taker}
use Rattle.hy_input.specs.declared.taker.Taker.TheVariants as T
use Rattle.hy_input.specs.Cases.{of_many, of_one, two_rows}
use Rattle.hy_input.specs.Inputs.{InputOf, input_of}
use Rattle.hy_worker.specs.Worker.{AllHaveEnded, AreApart, HasRoom, IsFirstWanting, IsInStep, IsReadyOf, IsSpent, IsWhole, Lasts, WorkerOf, worker_of}
use Rattle.hy_worker.specs.Calls.{ClosesFailed, GivesAllUp, IsCame, RestsAt, TellsFinished, TellsOffered, TellsTurned, TellsWent, TookOne}
use Rattle.hy_worker.specs.Laws.{HasLetGo, HoldsNone}

-- ---- inputs

-- of a mailbox with one sender, without a frame
abbrev pub from_box : ℕ → InputOf
from_box mailbox = input_of (T.One (record { mailbox = mailbox; closed = false ∷ [] })) 0 None 0 false

-- with rows at hand, and two at which something has to be taken
abbrev pub three : List InputOf
three = of_one (false ∷ []) (Some two_rows) 0 false ∷ of_many (false ∷ false ∷ []) None 0 false ∷ from_box 9 ∷ []

-- it can be gone on at where rows are at hand, not where something has to be taken, nor once it was ended, nor where no input is
abbrev pub ReadyWithRows : Type 0
ReadyWithRows = IsReadyOf three (false ∷ false ∷ false ∷ []) 0 × (IsReadyOf three (false ∷ false ∷ false ∷ []) 1 → ⊥) × (IsReadyOf three (true ∷ false ∷ false ∷ []) 0 → ⊥)
    × (IsReadyOf three (false ∷ false ∷ false ∷ false ∷ []) 3 → ⊥)

-- the first one from a number on
abbrev pub FirstOneWants : Type 0
FirstOneWants = IsFirstWanting three 0 1 × (IsFirstWanting three 0 2 → ⊥) × IsFirstWanting three 2 2 × (IsFirstWanting three 2 1 → ⊥)

-- every input has ended, and not where one sender has yet to close
abbrev pub EachHasEnded : Type 0
EachHasEnded = AllHaveEnded (of_one (true ∷ []) None 0 false ∷ of_many (true ∷ true ∷ []) None 0 false ∷ [])
    × (AllHaveEnded (of_one (true ∷ []) None 0 false ∷ of_many (true ∷ false ∷ []) None 0 false ∷ []) → ⊥)

-- two inputs have two mailboxes
abbrev pub BoxesApart : Type 0
BoxesApart = AreApart (from_box 3 ∷ from_box 4 ∷ []) × (AreApart (from_box 4 ∷ from_box 4 ∷ []) → ⊥)

-- one that was ended or given up holds no frame, and one that goes on may
abbrev pub SpentHoldNone : Type 0
SpentHoldNone = IsSpent true (of_one (true ∷ []) None 0 false) × (IsSpent true (of_one (true ∷ []) (Some two_rows) 2 false) → ⊥)
    × (IsSpent false (of_one (false ∷ []) (Some two_rows) 0 true) → ⊥) × IsSpent false (of_one (false ∷ []) (Some two_rows) 0 false)
    × (IsSpent true (of_one (false ∷ []) None 0 false) → ⊥)

-- with memory 3, inputs that hold 4 and 2 receivers 13 frames do, and no fewer; without a receiver one more than what may be held
abbrev pub RoomIsCounted : Type 0
RoomIsCounted = HasRoom 3 4 2 13 × (HasRoom 3 4 2 12 → ⊥) × HasRoom 3 1 0 7 × (HasRoom 3 1 0 6 → ⊥)

-- ---- pipelines

-- it puts nothing
abbrev pub silent : List Fed → List Row → Type 0
silent took put = put ≡ []

abbrev pub small : Fixed
small = record { unit = 256; memory = 3; cost = 1; width = λ k. 1; arity = 1; check = None }

abbrev pub none_ended : ℕ → Bool
none_ended k = false

-- an operator in this phase, with so many turns left and so many frames
abbrev pub works_in : Phase → ℕ → ℕ → Seen
works_in phase turns frames = record (storeless silent none_ended phase turns [] [] small) { frames = frames }

abbrev pub keeps_in : WriterState → OutputOf
keeps_in state = output_of 1 256 None (W.Kept (record { frames = []; state = state }))

-- one input
abbrev pub with_one : InputOf → Seen → OutputOf → Phase → WorkerOf
with_one x s o phase = worker_of (x ∷ []) s o (false ∷ []) phase false false

abbrev pub has_two : InputOf
has_two = of_one (false ∷ []) (Some two_rows) 0 false

abbrev pub bank_out : ℕ → BankOf
bank_out n = record { unit = 256; limit = 9; out = n; taken = n; given = 0; exported = 0; imported = 0 }

abbrev pub hungry : WorkerOf
hungry = with_one has_two (works_in Hungry 5 1) (keeps_in Opened) Hungry

-- out are the operator's frame and the input's, not one less; another phase is not in step, and of a bank with other units it is not whole
abbrev pub WholeCounts : Type 0
WholeCounts = IsWhole hungry (bank_out 2) × (IsWhole hungry (bank_out 1) → ⊥) × IsInStep hungry × (IsInStep (with_one has_two (works_in Hungry 5 1) (keeps_in Opened) Working) → ⊥)
    × (IsWhole (with_one has_two (works_in Hungry 5 1) (output_of 1 512 None (W.Kept (record { frames = []; state = Opened }))) Hungry) (bank_out 2) → ⊥)

-- no input comes or goes, and the output's rows stay as wide
abbrev pub PartsLast : Type 0
PartsLast = Lasts hungry hungry × (Lasts hungry (worker_of [] (works_in Hungry 5 1) (keeps_in Opened) [] Hungry false false) → ⊥)
    × (Lasts hungry (with_one has_two (works_in Hungry 5 1) (output_of 2 256 None (W.Kept (record { frames = []; state = Opened }))) Hungry) → ⊥)
    × (Lasts hungry (with_one (of_many (false ∷ []) None 0 false) (works_in Hungry 5 1) (keeps_in Opened) Hungry) → ⊥)

-- going on at rows at hand is no call that does nothing, nor one that skips a row
abbrev pub GoingOnFeeds : Type 0
GoingOnFeeds = TellsWent 0 hungry (with_one (of_one (false ∷ []) (Some two_rows) 1 false) (works_in Working 5 1) (keeps_in Opened) Working) (Ok tt)
    × (TellsWent 0 hungry hungry (Ok tt) → ⊥)
    × (TellsWent 0 hungry (with_one (of_one (false ∷ []) (Some two_rows) 2 false) (works_in Working 5 1) (keeps_in Opened) Working) (Ok tt) → ⊥)

-- a turn that works on something uses a turn
abbrev pub TurnsAreUsed : Type 0
TurnsAreUsed = TellsTurned hungry (with_one has_two (works_in Working 4 1) (keeps_in Opened) Working) (Ok N.Work)
    × (TellsTurned hungry (with_one has_two (works_in Working 5 1) (keeps_in Opened) Working) (Ok N.Work) → ⊥)
    × (TellsTurned hungry (with_one has_two (works_in Hungry 4 1) (keeps_in Opened) Working) (Ok N.Work) → ⊥)

-- a Close is a word and no rows, and a Fail is none of both
abbrev pub ParcelsCome : Type 0
ParcelsCome = IsCame C.Rows (P.Frame true_frame) × IsCame C.Word P.Close × IsCame C.Failed P.Fail × (IsCame C.Rows P.Close → ⊥) × (IsCame C.Word P.Fail → ⊥) × (IsCame C.Empty P.Open → ⊥)

-- a finished output is closed
abbrev pub FinishCloses : Type 0
FinishCloses = TellsFinished hungry (with_one has_two (works_in Hungry 5 1) (keeps_in Closed) Hungry) (Ok tt) × (TellsFinished hungry hungry (Ok tt) → ⊥)

-- a port at which nothing happens
abbrev pub quiet : ℕ → Event → ℕ → Type 0
quiet port e port' = ⊥

abbrev pub with_open : WorkerOf
with_open = with_one has_two (works_in Hungry 5 1) (output_of 1 256 None (writing (P.Open ∷ []) Opened)) Hungry

-- nothing was offered where nothing waits, and not where a parcel does
abbrev pub OffersWhatWaits : Type 0
OffersWhatWaits = TellsOffered quiet 0 0 hungry hungry O.Nothing × (TellsOffered quiet 0 0 with_open with_open O.Nothing → ⊥) × (TellsOffered quiet 0 0 hungry hungry O.Full → ⊥)

abbrev pub gave_up : InputOf → Seen → WriterState → WorkerOf
gave_up x s state = with_one x s (keeps_in state) GivenUp

-- no frame of an input or of the operator is left, and the output has failed
abbrev pub NothingIsKept : Type 0
NothingIsKept = GivesAllUp hungry (gave_up (of_one (false ∷ []) None 0 true) (works_in GivenUp 5 0) Failed)
    × (GivesAllUp hungry (gave_up (of_one (false ∷ []) (Some two_rows) 0 true) (works_in GivenUp 5 0) Failed) → ⊥)
    × (GivesAllUp hungry (gave_up (of_one (false ∷ []) None 0 true) (works_in GivenUp 5 1) Failed) → ⊥)
    × (GivesAllUp hungry (gave_up (of_one (false ∷ []) None 0 true) (works_in GivenUp 5 0) Opened) → ⊥)

-- one that failed is closed, and its inputs stay as they were
abbrev pub FailedCloses : Type 0
FailedCloses = ClosesFailed (gave_up (from_box 3) (works_in GivenUp 5 0) Failed) (gave_up (from_box 3) (works_in GivenUp 5 0) Closed)
    × (ClosesFailed (gave_up (from_box 3) (works_in GivenUp 5 0) Failed) (gave_up (from_box 3) (works_in GivenUp 5 0) Failed) → ⊥)
    × (ClosesFailed (gave_up (from_box 3) (works_in GivenUp 5 0) Failed) (gave_up (from_box 4) (works_in GivenUp 5 0) Closed) → ⊥)

-- with the senders of two partitions, of which these have closed
abbrev pub with_two : List Bool → WorkerOf
with_two closed = with_one (of_many closed None 0 false) (works_in Hungry 5 1) (keeps_in Opened) Hungry

-- a Close is its sender's, and where nothing was taken the rows at hand are what they were
abbrev pub TakesOfOneSender : Type 0
TakesOfOneSender = TookOne 0 1 P.Close (with_two (false ∷ false ∷ [])) (with_two (false ∷ true ∷ []))
    × (TookOne 0 0 P.Close (with_two (false ∷ false ∷ [])) (with_two (false ∷ true ∷ [])) → ⊥)
    × (TookOne 0 1 P.Open (with_two (false ∷ false ∷ [])) (with_two (false ∷ true ∷ [])) → ⊥)
    × RestsAt 0 (with_two (false ∷ false ∷ [])) (with_two (false ∷ false ∷ []))
    × (RestsAt 0 hungry (with_one (of_one (false ∷ []) None 0 false) (works_in Hungry 5 1) (keeps_in Opened) Hungry) → ⊥)

-- memory may always be wanting, and a store faults where its count rose; what was packed can go on but for want of memory
abbrev pub FaultsHaveCauses : Type 0
FaultsHaveCauses = TellsWent 0 hungry (with_one (of_one (false ∷ []) (Some two_rows) 1 false) (works_in Working 5 1) (keeps_in Opened) Working) (Err F.NoMemory)
    × (TellsWent 0 hungry (with_one (of_one (false ∷ []) (Some two_rows) 1 false) (works_in Working 5 1) (keeps_in Opened) Working) (Err F.Store) → ⊥)
    × TellsTurned hungry (with_one has_two (works_in Working 4 1) (keeps_in Opened) Working) (Err F.NoMemory)
    × (TellsTurned hungry (with_one has_two (works_in Working 4 1) (keeps_in Opened) Working) (Err F.Store) → ⊥)
    × TellsFinished hungry hungry (Err F.NoMemory) × (TellsFinished hungry hungry (Err F.Store) → ⊥)

-- all was let go where the operator holds no frame and the input was given up; a frame of the operator, or an input that goes on, is not let go
abbrev pub AllIsLetGo : Type 0
AllIsLetGo = HasLetGo (gave_up (of_one (false ∷ []) None 0 true) (works_in GivenUp 5 0) Failed) × (HasLetGo (gave_up (of_one (false ∷ []) None 0 true) (works_in GivenUp 5 1) Failed) → ⊥)
    × (HasLetGo (with_one has_two (works_in Hungry 5 0) (keeps_in Opened) Hungry) → ⊥)

-- a merge of one sender, with this frame of which one row was given
abbrev pub merging : Option FrameOf → Bool → Taker
merging frame given_up = T.Merge (merger_of [] (record { mailbox = 3; closed = false; frame = frame; next = 1 } ∷ []) None given_up)

-- a new one holds no frame, not even one of which all rows were given
abbrev pub NewHoldNone : Type 0
NewHoldNone = HoldsNone (merging None false) × (HoldsNone (merging (Some true_frame) false) → ⊥) × (HoldsNone (merging (Some two_rows) false) → ⊥) × (HoldsNone (merging None true) → ⊥)
