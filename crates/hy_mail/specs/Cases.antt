-- Worked cases of words, of rows of values, and of steps on a desk.
use Rattle.std.specs.Prelude.{◌≡◌, ◌-◌, ◌^◌, ℕ, pos, Bool, true, false, List, [], ◌∷◌, Some}
use Rattle.al_value.specs.declared.value.Value.{Value}
use Rattle.al_value.specs.declared.value.Value.TheVariants as V
use Rattle.hy_frame.specs.Frame.{FrameOf}
use Rattle.hy_frame.specs.Row.{Fields}
use Rattle.hy_frame.specs.declared.writer.WriterState.{WriterState}
use Rattle.hy_frame.specs.declared.writer.WriterState.TheVariants as W
use Rattle.hy_rest.specs.Words as S
use Rattle.hy_mail.specs.declared.parcel.Parcel.{Parcel}
use Rattle.hy_mail.specs.declared.parcel.Parcel.TheVariants.{Open, Frame, Fail, Close}
use Rattle.hy_mail.specs.declared.parcel.Posted.{Posted}
use Rattle.hy_mail.specs.declared.plan.BoxPlan.{BoxPlan}
use Rattle.hy_mail.specs.Desks.{BoxState, DeskState, DeskStep, Receives, Sends, box, fresh_desk, seat_of, word_of}
use Rattle.hy_mail.specs.Events.{Put, Took, Raise, Look, Full, Empty, refused_after}
use Rattle.hy_mail.specs.Rows.{IsSeenWith}
use Rattle.hy_mail.specs.Signals.{AreSignals}
use Rattle.hy_mail.specs.Words.{IsWordSoFar, IsWriterWord}

-- ---- words

abbrev pub FramesMayCome : Type 0
FramesMayCome = (f g : FrameOf) → IsWriterWord (Open ∷ Frame f ∷ Frame g ∷ Close ∷ [])

abbrev pub FailMayCome : Type 0
FailMayCome = (f : FrameOf) → IsWriterWord (Open ∷ Frame f ∷ Fail ∷ Close ∷ [])

abbrev pub OpenIsABeginning : Type 0
OpenIsABeginning = (f : FrameOf) → IsWordSoFar (Open ∷ Frame f ∷ [])

abbrev pub OpenIsNoEnd : Type 0
OpenIsNoEnd = (f : FrameOf) → IsWriterWord (Open ∷ Frame f ∷ []) → ⊥

abbrev pub FailIsNoEnd : Type 0
FailIsNoEnd = IsWriterWord (Open ∷ Fail ∷ []) → ⊥

abbrev pub OpenComesFirst : Type 0
OpenComesFirst = (f : FrameOf) → IsWordSoFar (Frame f ∷ []) → ⊥

abbrev pub OpenComesOnce : Type 0
OpenComesOnce = IsWordSoFar (Open ∷ Open ∷ []) → ⊥

abbrev pub NoFrameBehindFail : Type 0
NoFrameBehindFail = (f : FrameOf) → IsWordSoFar (Open ∷ Fail ∷ Frame f ∷ []) → ⊥

abbrev pub NothingBehindClose : Type 0
NothingBehindClose = (p : Parcel) → IsWordSoFar (Open ∷ Close ∷ p ∷ []) → ⊥

-- ---- rows of values

-- NULL and TRUE; FALSE and 1
abbrev two_rows : List Fields
two_rows = ((0 ∷ []) ∷ (2 ∷ []) ∷ []) ∷ ((1 ∷ []) ∷ (3 ∷ 128 ∷ 0 ∷ 0 ∷ 0 ∷ 0 ∷ 0 ∷ 0 ∷ 1 ∷ []) ∷ []) ∷ []

abbrev frame : FrameOf
frame = record { arity = 2; unit = 256; size = 256; rows = two_rows }

abbrev null_true : List Value
null_true = V.Null ∷ V.Bool true ∷ []

abbrev false_one : List Value
false_one = V.Bool false ∷ V.Int (pos 1) ∷ []

abbrev pub FrameShowsItsValues : Type 0
FrameShowsItsValues = IsSeenWith (Frame frame) (null_true ∷ false_one ∷ [])

abbrev pub FrameShowsNoOthers : Type 0
FrameShowsNoOthers = IsSeenWith (Frame frame) ((V.Null ∷ V.Bool false ∷ []) ∷ false_one ∷ []) → ⊥

abbrev pub FrameShowsNoOtherOrder : Type 0
FrameShowsNoOtherOrder = IsSeenWith (Frame frame) (false_one ∷ null_true ∷ []) → ⊥

abbrev pub CloseShowsNoRow : Type 0
CloseShowsNoRow = (row : List Value) → IsSeenWith Close (row ∷ []) → ⊥

abbrev pub FrameIsRowsBetween : Type 0
FrameIsRowsBetween = AreSignals (Open ∷ Frame frame ∷ Close ∷ []) (S.Open ∷ S.Rows (null_true ∷ false_one ∷ []) ∷ S.Close ∷ [])

abbrev pub KindsAreTheSame : Type 0
KindsAreTheSame = AreSignals (Open ∷ Close ∷ []) (S.Open ∷ S.Fail ∷ []) → ⊥

abbrev pub NoSignalIsMissing : Type 0
NoSignalIsMissing = AreSignals (Open ∷ Frame frame ∷ []) (S.Open ∷ []) → ⊥

-- ---- a desk of two mailboxes

-- for the task 2, of the tasks 4 and 7, with room for one parcel
abbrev from_two : BoxPlan
from_two = record { senders = 4 ∷ 7 ∷ []; receiver = 2; capacity = 1; arity = 3 }

-- for the task 7, of the task 4, with room for two
abbrev from_one : BoxPlan
from_one = record { senders = 4 ∷ []; receiver = 7; capacity = 2; arity = 1 }

abbrev new_desk : DeskState
new_desk = fresh_desk (from_two ∷ from_one ∷ [])

-- the first mailbox with these parcels, words and refusals
abbrev first_with : List Posted → List WriterState → ℕ → BoxState
first_with queue words refused = record { queue = queue; senders = 4 ∷ 7 ∷ []; words = words; receiver = 2; capacity = 1; arity = 3; refused = refused }

abbrev second_with : List Posted → List WriterState → BoxState
second_with queue words = record { queue = queue; senders = 4 ∷ []; words = words; receiver = 7; capacity = 2; arity = 1; refused = 0 }

abbrev posted : ℕ → Parcel → Posted
posted from parcel = record { from = from; parcel = parcel }

abbrev desk_of : BoxState → BoxState → Bool → DeskState
desk_of first second raised = record { boxes = first ∷ second ∷ []; raised = raised }

-- the task 7, which has the number 1 there, has opened its word at the first mailbox
abbrev opened_by : ℕ → DeskState
opened_by from = desk_of (first_with (posted from Open ∷ []) (W.Initial ∷ W.Opened ∷ []) 0) (second_with [] (W.Initial ∷ [])) false

-- the task 4 has put its whole word into the second
abbrev whole_word : DeskState
whole_word = desk_of (first_with [] (W.Initial ∷ W.Initial ∷ []) 0) (second_with (posted 0 Open ∷ posted 0 Close ∷ []) (W.Closed ∷ [])) false

abbrev pub SendersHaveNumbers : Type 0
SendersHaveNumbers = (seat_of (box new_desk 0).senders 7 ≡ Some 1) × Sends new_desk 7 0 × Sends new_desk 4 1

abbrev pub OthersDontSend : Type 0
OthersDontSend = Sends new_desk 7 1 → ⊥

abbrev pub OneReceives : Type 0
OneReceives = Receives new_desk 2 0 × (Receives new_desk 7 0 → ⊥)

abbrev pub PutGoesIn : Type 0
PutGoesIn = DeskStep 7 new_desk (Put 0 Open) (opened_by 1)

abbrev pub PutIsItsSenders : Type 0
PutIsItsSenders = DeskStep 7 new_desk (Put 0 Open) (opened_by 0) → ⊥

abbrev pub PutIsNotDropped : Type 0
PutIsNotDropped = DeskStep 7 new_desk (Put 0 Open) new_desk → ⊥

-- how far each sender's word has come then
abbrev pub WordsAreApart : Type 0
WordsAreApart = (word_of (opened_by 1) 7 0 ≡ W.Opened) × (word_of (opened_by 1) 4 0 ≡ W.Initial)

abbrev pub OpenOnce : Type 0
OpenOnce = (e : DeskState) → DeskStep 4 whole_word (Put 1 Open) e → ⊥

abbrev pub FramesHaveTheArity : Type 0
FramesHaveTheArity = (e : DeskState) → DeskStep 4 (desk_of (first_with [] (W.Opened ∷ W.Opened ∷ []) 0) (second_with [] (W.Opened ∷ [])) false) (Put 1 (Frame frame)) e → ⊥

abbrev pub FullIsCounted : Type 0
FullIsCounted = DeskStep 4 (opened_by 1) (Full 0) (desk_of (first_with (posted 1 Open ∷ []) (W.Initial ∷ W.Opened ∷ []) 1) (second_with [] (W.Initial ∷ [])) false)

abbrev pub FullTakesNoMore : Type 0
FullTakesNoMore = (e : DeskState) → DeskStep 4 (opened_by 1) (Put 0 Open) e → ⊥

abbrev pub RoomIsNotFull : Type 0
RoomIsNotFull = (e : DeskState) → DeskStep 4 new_desk (Full 0) e → ⊥

abbrev pub FrontIsTaken : Type 0
FrontIsTaken = DeskStep 7 whole_word (Took 1 0 Open) (desk_of (first_with [] (W.Initial ∷ W.Initial ∷ []) 0) (second_with (posted 0 Close ∷ []) (W.Closed ∷ [])) false)

abbrev pub LastIsNotTaken : Type 0
LastIsNotTaken = (e : DeskState) → DeskStep 7 whole_word (Took 1 0 Close) e → ⊥

abbrev pub EmptyIsCounted : Type 0
EmptyIsCounted = DeskStep 2 new_desk (Empty 0) (desk_of (first_with [] (W.Initial ∷ W.Initial ∷ []) 1) (second_with [] (W.Initial ∷ [])) false)

abbrev pub SomeIsNotEmpty : Type 0
SomeIsNotEmpty = (e : DeskState) → DeskStep 2 (opened_by 1) (Empty 0) e → ⊥

abbrev pub NotRaisedAtFirst : Type 0
NotRaisedAtFirst = (e : DeskState) → DeskStep 2 new_desk (Look true) e → ⊥

abbrev raised_desk : DeskState
raised_desk = desk_of (first_with [] (W.Initial ∷ W.Initial ∷ []) 0) (second_with [] (W.Initial ∷ [])) true

abbrev pub RaiseIsSeen : Type 0
RaiseIsSeen = DeskStep 4 new_desk Raise raised_desk × DeskStep 2 raised_desk (Look true) raised_desk

abbrev pub RaiseIsNotUnseen : Type 0
RaiseIsNotUnseen = (e : DeskState) → DeskStep 2 raised_desk (Look false) e → ⊥

-- each refusal counts at its mailbox, and the count stands still at its end
abbrev pub RefusalsCount : Type 0
RefusalsCount = (refused_after (Full 3) 3 5 ≡ 6) × (refused_after (Empty 3) 3 5 ≡ 6) × (refused_after (Full 3) 4 5 ≡ 5) × (refused_after (Put 3 Open) 3 5 ≡ 5) × (refused_after (Full 3) 3 (2 ^ 64 - 1) ≡ 2 ^ 64 - 1)
