-- Worked cases of the rule of a mailbox of threads, and of ports over passes.
use Rattle.std.specs.Prelude.{◌≡◌, ◌-◌, ◌^◌, ℕ, true, false, List, [], ◌∷◌}
use Rattle.atomic_table.specs.Seated.{TableId}
use Rattle.hy_abort.specs.Seats.{HasSeen}
use Rattle.hy_frame.specs.Frame.{FrameOf}
use Rattle.hy_frame.specs.declared.writer.WriterState.{WriterState}
use Rattle.hy_frame.specs.declared.writer.WriterState.TheVariants as W
use Rattle.hy_mail.specs.declared.parcel.Parcel.{Parcel}
use Rattle.hy_mail.specs.declared.parcel.Parcel.TheVariants.{Open, Frame, Close}
use Rattle.hy_mail.specs.declared.parcel.Posted.{Posted}
use Rattle.hy_mail.specs.declared.rule.MailView.{MailView}
use Rattle.hy_mail.specs.Events.{Raise, Look}
use Rattle.hy_mail.specs.Mails.{Mails, maker, sender, spent}
use Rattle.hy_mail.specs.Passes.{SendState, TakeState, putting}
use Rattle.hy_mail.specs.Seated.{PortState, PortStep, change_at, has, refused_at, word_at}

-- ---- the rule, of a mailbox with arity 3

abbrev pub posted : ℕ → Parcel → Posted
posted from parcel = record { from = from; parcel = parcel }

abbrev pub taker_of : ℕ → List Posted → MailView
taker_of made took = record maker { made = made; arity = 3; took = took }

abbrev pub sender_of : ℕ → List Parcel → MailView
sender_of number put = record (sender number 3) { put = put }

-- two senders, beside what was taken
abbrev pub two_senders : List Posted → List Parcel → List Parcel → List MailView
two_senders took first second = taker_of 2 took ∷ sender_of 0 first ∷ sender_of 1 second ∷ []

abbrev pub PutIsTakenThenHeld : Type 0
PutIsTakenThenHeld = Mails (posted 1 Open ∷ posted 0 Close ∷ []) (two_senders (posted 0 Open ∷ []) (Open ∷ Close ∷ []) (Open ∷ []))

abbrev pub NoneIsDropped : Type 0
NoneIsDropped = Mails (posted 0 Open ∷ []) (two_senders [] (Open ∷ []) (Open ∷ [])) → ⊥

abbrev pub NoneIsMadeUp : Type 0
NoneIsMadeUp = Mails (posted 1 Open ∷ []) (two_senders [] [] []) → ⊥

abbrev pub NoneOvertakes : Type 0
NoneOvertakes = Mails (posted 0 Close ∷ posted 0 Open ∷ []) (two_senders [] (Open ∷ Close ∷ []) []) → ⊥

abbrev pub SendersPutWords : Type 0
SendersPutWords = Mails (posted 0 Close ∷ []) (two_senders [] (Close ∷ []) []) → ⊥

abbrev pub HeldIsOfSenders : Type 0
HeldIsOfSenders = Mails (posted 2 Open ∷ []) (two_senders [] [] []) → ⊥

abbrev pub HeldIsOfTheArity : Type 0
HeldIsOfTheArity = (f : FrameOf) → f.arity ≡ 2 → Mails (posted 0 Open ∷ posted 0 (Frame f) ∷ []) (two_senders [] (Open ∷ Frame f ∷ []) []) → ⊥

abbrev pub NoSecondTaker : Type 0
NoSecondTaker = Mails [] (taker_of 0 [] ∷ taker_of 0 [] ∷ []) → ⊥

abbrev pub NoNumberTwice : Type 0
NoNumberTwice = Mails [] (taker_of 2 [] ∷ sender_of 0 [] ∷ sender_of 0 [] ∷ []) → ⊥

-- the number 1 was dealt, and is in no view
abbrev pub NoNumberIsLost : Type 0
NoNumberIsLost = Mails [] (taker_of 2 [] ∷ sender_of 0 [] ∷ []) → ⊥

abbrev pub SpentHoldsNothing : Type 0
SpentHoldsNothing = Mails [] (taker_of 0 [] ∷ record spent { put = Open ∷ [] } ∷ []) → ⊥

-- ---- passes of the mailboxes 3 and 5

module _ (id : TableId) where
  abbrev send : WriterState → ℕ → SendState
  send word refused = record { mailbox = id; number = 0; arity = 1; word = word; put = []; refused = refused }

  abbrev take_by : ℕ → TakeState
  take_by refused = record { mailbox = id; senders = 1; arity = 1; took = []; refused = refused }

  abbrev two_passes : List (ℕ × SendState)
  two_passes = (3, send W.Opened 4) ∷ (5, send W.Initial 0) ∷ []

abbrev pub WordsAreByMailbox : Type 0
WordsAreByMailbox = (id : TableId) → (word_at (two_passes id) 3 ≡ W.Opened) × (word_at (two_passes id) 5 ≡ W.Initial) × (has (two_passes id) 4 ≡ false)

abbrev pub PutChangesItsPass : Type 0
PutChangesItsPass = (id : TableId) → change_at (λ s. putting s Open) (two_passes id) 5 ≡ (3, send id W.Opened 4) ∷ (5, putting (send id W.Initial 0) Open) ∷ []

abbrev pub RefusalsAdd : Type 0
RefusalsAdd = (id : TableId) → (refused_at (two_passes id) ((3, take_by id 2) ∷ []) 3 ≡ 6) × (refused_at (two_passes id) ((3, take_by id 2) ∷ []) 5 ≡ 0)

abbrev pub RefusalsEnd : Type 0
RefusalsEnd = (id : TableId) → refused_at ((3, send id W.Opened (2 ^ 64 - 1)) ∷ []) ((3, take_by id 1) ∷ []) 3 ≡ 2 ^ 64 - 1

-- ---- the seat of a port

abbrev pub RaiseRaises : Type 0
RaiseRaises = (p q : PortState) → p.seat.raised ≡ false → PortStep p Raise q → (q.seat.raised ≡ true) × HasSeen q.seat

abbrev pub SecondRaiseIsNoStep : Type 0
SecondRaiseIsNoStep = (p q : PortState) → p.seat.raised ≡ true → PortStep p Raise q → q ≡ p

abbrev pub LookIsTrueWhereFound : Type 0
LookIsTrueWhereFound = (p q : PortState) → (PortStep p (Look true) q → HasSeen q.seat) × (PortStep p (Look false) q → q.seat.found ≡ 0)

abbrev pub SeenIsSeenAgain : Type 0
SeenIsSeenAgain = (p q : PortState) → HasSeen p.seat → PortStep p (Look false) q → ⊥
