-- Worked cases of what contracts say of writers and takers.
use Rattle.std.specs.Prelude.{◌≡◌, ◌-◌, ◌^◌, ℕ, true, false, List, [], ◌∷◌, Some, None}
use Rattle.al_value.specs.declared.value.Value.TheVariants as V
use Rattle.hy_frame.specs.Bank.{BankOf}
use Rattle.hy_frame.specs.Frame.{FrameOf}
use Rattle.hy_frame.specs.Row.{Fields}
use Rattle.hy_frame.specs.declared.writer.WriterState.{WriterState}
use Rattle.hy_frame.specs.declared.writer.WriterState.TheVariants.{Opened, Failed, Closed}
use Rattle.hy_mail.specs.declared.parcel.Parcel.{Parcel}
use Rattle.hy_mail.specs.declared.parcel.Parcel.TheVariants as P
use Rattle.hy_driver.specs.Rows.{Row}
use Rattle.hy_connect.specs.declared.route.Route.TheVariants as R
use Rattle.hy_connect.specs.Outlets.{Exports, IsSendable, OutletOf, frames_waiting}
use Rattle.hy_connect.specs.Routes.{sent_by}
use Rattle.hy_connect.specs.Writers.{IsAsFar, WriterOf, may_offer, writer_of}
use Rattle.hy_job.specs.declared.job.Wire.TheVariants as W
use Rattle.hy_connect.specs.declared.stage_boxes.Ends.{Ends}
use Rattle.hy_connect.specs.Plans.{first_of, plans_at}
use Rattle.hy_connect.specs.Takers.{HaveClosed, IsGoing}

abbrev pub true_row : Row
true_row = V.Bool true ∷ []

abbrev pub false_row : Row
false_row = V.Bool false ∷ []

abbrev pub null_row : Row
null_row = V.Null ∷ []

-- the frame of these rows of one field
abbrev pub frame_of : List Fields → FrameOf
frame_of rows = record { arity = 1; unit = 256; size = 256; rows = rows }

-- that of TRUE alone
abbrev pub true_frame : FrameOf
true_frame = frame_of (((2 ∷ []) ∷ []) ∷ [])

-- a broadcast to the mailboxes 3 and 4: nothing waits for the second
abbrev pub to_two : WriterState → List Parcel → WriterOf
to_two state waits = writer_of R.Whole 1 256 (record { mailbox = 3; filling = None; waits = waits; spare = 2 } ∷ record { mailbox = 4; filling = None; waits = []; spare = 2 } ∷ []) state

-- what waits for a receiver comes before what is still given, and is no other receiver's
abbrev pub WaitingComesFirst : Type 0
WaitingComesFirst = may_offer (to_two Opened (P.Frame true_frame ∷ [])) 0 (null_row ∷ []) (true_row ∷ null_row ∷ [])
    × (may_offer (to_two Opened (P.Frame true_frame ∷ [])) 0 (null_row ∷ []) (null_row ∷ []) → ⊥)
    × may_offer (to_two Opened (P.Frame true_frame ∷ [])) 1 (null_row ∷ []) (null_row ∷ [])

-- nothing is given behind a failure or an end
abbrev pub NothingBehindFail : Type 0
NothingBehindFail = may_offer (to_two Failed (P.Frame true_frame ∷ P.Fail ∷ [])) 0 [] (true_row ∷ [])
    × (may_offer (to_two Failed []) 1 (null_row ∷ []) (null_row ∷ []) → ⊥)
    × (may_offer (to_two Closed []) 1 (null_row ∷ []) (null_row ∷ []) → ⊥)

-- rows of a frame that is filled are owed behind those that wait
abbrev pub FilledIsOwed : Type 0
FilledIsOwed = may_offer (writer_of (R.ByHash (0 ∷ [])) 1 256 (record { mailbox = 3; filling = Some (frame_of (((0 ∷ []) ∷ []) ∷ [])); waits = P.Frame true_frame ∷ []; spare = 2 } ∷ []) Opened) 0 [] (true_row ∷ null_row ∷ [])
    × (may_offer (writer_of (R.ByHash (0 ∷ [])) 1 256 (record { mailbox = 3; filling = Some (frame_of (((0 ∷ []) ∷ []) ∷ [])); waits = []; spare = 2 } ∷ []) Opened) 0 [] [] → ⊥)

-- where the Open still waits, no word at a mailbox was opened
abbrev pub WordsAreBehind : Type 0
WordsAreBehind = (IsAsFar (λ m. Opened) (to_two Opened (P.Open ∷ [])) → ⊥) × IsAsFar (λ m. Opened) (to_two Opened (P.Frame true_frame ∷ []))
    × (IsAsFar (λ m. Failed) (to_two Failed (P.Frame true_frame ∷ [])) → ⊥)

-- a frame without rows is not put
abbrev pub EmptyIsNotSent : Type 0
EmptyIsNotSent = (IsSendable 1 (P.Frame (frame_of [])) → ⊥) × IsSendable 1 (P.Frame true_frame) × (IsSendable 2 (P.Frame true_frame) → ⊥)

-- two receivers of a hash wire: a frame is filled for the first, and frames and marks wait for both
abbrev pub two_waiting : List OutletOf
two_waiting =
    record { mailbox = 3; filling = Some true_frame; waits = P.Open ∷ P.Frame true_frame ∷ []; spare = 2 }
    ∷ record { mailbox = 4; filling = None; waits = P.Frame true_frame ∷ P.Fail ∷ P.Frame true_frame ∷ P.Close ∷ []; spare = 2 } ∷ []

-- the frames that wait for both receivers are counted, and neither marks nor a frame that is filled
abbrev pub FramesAreCounted : Type 0
FramesAreCounted = (frames_waiting two_waiting ≡ 3) × (frames_waiting [] ≡ 0) × (frames_waiting two_waiting ≡ 1 → ⊥) × (frames_waiting two_waiting ≡ 4 → ⊥)

-- a bank of which so many frames were exported and imported
abbrev pub bank_after : ℕ → ℕ → BankOf
bank_after exported imported = record { unit = 256; limit = 20; out = 2; taken = 9; given = 1; exported = exported; imported = imported }

-- where two frames more wait, two were exported, neither fewer nor more, and none was imported; no frame that waited is
-- taken back
abbrev pub ExportsWhatWaits : Type 0
ExportsWhatWaits = Exports 1 3 (bank_after 5 4) (bank_after 7 4) × (Exports 1 3 (bank_after 5 4) (bank_after 6 4) → ⊥)
    × (Exports 1 3 (bank_after 5 4) (bank_after 8 4) → ⊥) × (Exports 1 3 (bank_after 5 4) (bank_after 7 5) → ⊥)
    × (Exports 3 1 (bank_after 5 4) (bank_after 3 4) → ⊥)

-- a count at its end tells no more, and one below it does
abbrev pub CountsEnd : Type 0
CountsEnd = Exports 1 3 (bank_after (2 ^ 64 - 2) 4) (bank_after (2 ^ 64 - 1) 4)
    × (Exports 1 3 (bank_after (2 ^ 64 - 3) 4) (bank_after (2 ^ 64 - 2) 4) → ⊥)

-- of two senders both have to close
abbrev pub BothHaveToClose : Type 0
BothHaveToClose = HaveClosed (true ∷ true ∷ []) × IsGoing (true ∷ false ∷ []) × HaveClosed []

-- TRUE goes to the second of two receivers, FALSE to the first, whatever their places in the list
abbrev pub HashSplits : Type 0
HashSplits = (sent_by (R.ByHash (0 ∷ [])) 2 0 (true_row ∷ false_row ∷ true_row ∷ []) ≡ false_row ∷ [])
    × (sent_by (R.ByHash (0 ∷ [])) 2 1 (true_row ∷ false_row ∷ true_row ∷ []) ≡ true_row ∷ true_row ∷ [])

-- ---- mailboxes

-- an edge between two activities with two tasks each, 0 and 1, and 2 and 3
abbrev pub two_by_two : Ends
two_by_two = record { partitions = 2; from = 0; to = 2; arity = 1 }

-- over a hash wire both tasks put into one mailbox of the second receiver, which has room for two parcels of each
abbrev pub TwoShareABox : Type 0
TwoShareABox = plans_at two_by_two (W.Hash (0 ∷ [])) 1 ≡ record { senders = 0 ∷ 1 ∷ []; receiver = 3; capacity = 4; arity = 1 } ∷ []

-- over a merging wire each puts into one of its own, and only the first receiver has any
abbrev pub EachHasABox : Type 0
EachHasABox = (plans_at two_by_two (W.Merge []) 0 ≡ record { senders = 0 ∷ []; receiver = 2; capacity = 2; arity = 1 } ∷ record { senders = 1 ∷ []; receiver = 2; capacity = 2; arity = 1 } ∷ [])
    × (plans_at two_by_two (W.Merge []) 1 ≡ [])

-- the tasks of the second activity of a stage come behind those of the first
abbrev pub TasksFollow : Type 0
TasksFollow = (first_of 2 (4 ∷ 7 ∷ []) 7 ≡ 2) × (first_of 2 (4 ∷ 7 ∷ []) 4 ≡ 0)
