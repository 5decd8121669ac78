-- What contracts see of a mailbox of threads and of its passes.
use Rattle.std.specs.Prelude.{◌≡◌, ◌<◌, ◌++◌, ℕ, List, [], ◌∷◌, length, slice_index_or, Option, Some, None}
use Rattle.atomic_table.specs.Seated.{TableId}
use Rattle.hy_frame.specs.Bank.{one_more}
use Rattle.hy_frame.specs.declared.writer.WriterState.{WriterState}
use Rattle.hy_frame.specs.declared.writer.WriterState.TheVariants.{Initial}
use Rattle.hy_mail.specs.declared.parcel.Parcel.{Parcel}
use Rattle.hy_mail.specs.declared.parcel.Posted.{Posted}
use Rattle.hy_mail.specs.declared.parcel.PutAnswer.{PutAnswer}
use Rattle.hy_mail.specs.declared.parcel.PutAnswer.TheVariants as A
use Rattle.hy_mail.specs.DeskRuns.{of_sender}
use Rattle.hy_mail.specs.Words.{HasArity, IsWordSoFar, next}

pub record MailboxState : Type 0 where
  pub id : TableId
  pub senders : ℕ
  pub capacity : ℕ
  pub arity : ℕ

-- of which mailbox it is a sender's pass, under which number, at which arity, how far its word has come, what it put, and how
-- often it found the mailbox full
pub record SendState : Type 0 where
  pub mailbox : TableId
  pub number : ℕ
  pub arity : ℕ
  pub word : WriterState
  pub put : List Parcel
  pub refused : ℕ

-- of which mailbox it is the taker's pass, how many senders that has, at which arity, what was taken, and how often it found
-- the mailbox empty
pub record TakeState : Type 0 where
  pub mailbox : TableId
  pub senders : ℕ
  pub arity : ℕ
  pub took : List Posted
  pub refused : ℕ

pub record IsSendOf (m : MailboxState) (s : SendState) : Type 0 where
  pub mailbox : s.mailbox ≡ m.id
  pub number : s.number < m.senders
  pub arity : s.arity ≡ m.arity

pub record IsTakeOf (m : MailboxState) (t : TakeState) : Type 0 where
  pub mailbox : t.mailbox ≡ m.id
  pub senders : t.senders ≡ m.senders
  pub arity : t.arity ≡ m.arity

-- ---- the beginning

abbrev pub fresh_by : TableId → ℕ → ℕ → SendState
fresh_by id arity number = record { mailbox = id; number = number; arity = arity; word = Initial; put = []; refused = 0 }

abbrev pub fresh_send : MailboxState → ℕ → SendState
fresh_send m number = fresh_by m.id m.arity number

abbrev pub fresh_take : MailboxState → TakeState
fresh_take m = record { mailbox = m.id; senders = m.senders; arity = m.arity; took = []; refused = 0 }

-- these are the passes of the first numbers, and have put nothing
abbrev pub AreFreshBy : TableId → ℕ → List SendState → Type 0
AreFreshBy id arity passes = (k : ℕ) (d : SendState) → k < length passes → slice_index_or passes k d ≡ fresh_by id arity k

abbrev pub AreFresh : MailboxState → List SendState → Type 0
AreFresh m passes = AreFreshBy m.id m.arity passes

-- ---- a put

abbrev pub putting : SendState → Parcel → SendState
putting s p = record s { word = next s.word p; put = s.put ++ p ∷ [] }

abbrev pub refused_put : SendState → SendState
refused_put s = record s { refused = one_more s.refused }

-- at one moment of the call the mailbox was full, and what this sender had put was what had been taken of it and what was there
abbrev pub WasFull : MailboxState → SendState → Type 0
WasFull m s = (items : List Posted) × (length items ≡ m.capacity) × ((took : List Posted) × (of_sender s.number (took ++ items) ≡ s.put))

abbrev pub TellsMailPut : MailboxState → SendState → Parcel → SendState → PutAnswer → Type 0
TellsMailPut m old p new A.Put = new ≡ putting old p
TellsMailPut m old p new (A.Full back) = (back ≡ p) × WasFull m old × (new ≡ refused_put old)

-- ---- a take

abbrev pub taking : TakeState → ℕ → Parcel → TakeState
taking t from p = record t { took = t.took ++ record { from = from; parcel = p } ∷ [] }

abbrev pub refused_take : TakeState → TakeState
refused_take t = record t { refused = one_more t.refused }

-- at one moment of the call the mailbox was empty, and each sender's word so far was what had been taken of it
abbrev pub WasEmpty : TakeState → Type 0
WasEmpty t = (items : List Posted) × (length items ≡ 0) × ((p : ℕ) → IsWordSoFar (of_sender p (t.took ++ items)))

abbrev pub TellsMailTake : TakeState → TakeState → Option (ℕ × Parcel) → Type 0
TellsMailTake old new None = WasEmpty old × (new ≡ refused_take old)
TellsMailTake old new (Some x) = (new ≡ taking old x.0 x.1) × (x.0 < old.senders) × HasArity old.arity x.1

-- ---- the end

-- each of them is the mailbox's, under the number of its place
abbrev pub AreNumbered : TableId → List SendState → Type 0
AreNumbered id passes = (k : ℕ) (d : SendState) → k < length passes → ((slice_index_or passes k d).mailbox ≡ id) × ((slice_index_or passes k d).number ≡ k)

-- these are all senders' passes of the mailbox, by their numbers
pub record AreSendsOf (m : MailboxState) (passes : List SendState) : Type 0 where
  pub all : length passes ≡ m.senders
  pub each : AreNumbered m.id passes

-- what was taken of each sender is what it put
abbrev pub Settles : List SendState → List Posted → Type 0
Settles passes took = (k : ℕ) (d : SendState) → k < length passes → of_sender k took ≡ (slice_index_or passes k d).put
