-- What a port over passes does to what its passes and its seat know.
use Rattle.std.specs.Prelude.{◌≡◌, ◌<◌, ◌+◌, ◌-◌, ◌^◌, ◌==◌, ℕ, Bool, true, false, List, [], ◌∷◌, length, map, min, slice_index_or, if◌then◌else◌, All, MatchBool, Option, Some, None, position}
use Rattle.hy_abort.specs.Seats.{HasSeen, IsSeatOf, Looks, Raises, SeatState, WordState}
use Rattle.hy_frame.specs.declared.writer.WriterState.{WriterState}
use Rattle.hy_frame.specs.declared.writer.WriterState.TheVariants.{Initial}
use Rattle.hy_mail.specs.declared.parcel.Parcel.{Parcel}
use Rattle.hy_mail.specs.declared.parcel.PutAnswer.{PutAnswer}
use Rattle.hy_mail.specs.declared.parcel.PutAnswer.TheVariants as A
use Rattle.hy_mail.specs.Events.{Event, Put, Took, Raise, Look, Full, Empty}
use Rattle.hy_mail.specs.Passes.{IsSendOf, IsTakeOf, MailboxState, SendState, TakeState, WasEmpty, WasFull, putting, refused_put, refused_take, taking}
use Rattle.hy_mail.specs.Words.{HasArity, may}

-- the mailboxes, the abort word, the seat at it, and the passes, each with its mailbox's number
pub record PortState : Type 0 where
  pub boxes : List MailboxState
  pub word : WordState
  pub seat : SeatState
  pub sends : List (ℕ × SendState)
  pub takes : List (ℕ × TakeState)

-- ---- passes by their mailboxes

module _ {A : Type 0} where
  -- there is a pass for this mailbox
  abbrev pub has : List (ℕ × A) → ℕ → Bool
  has [] m = false
  has (x ∷ xs) m = if x.0 == m then true else has xs m

  -- the place of the first of them
  abbrev pub place_in : List (ℕ × A) → ℕ → Option ℕ
  place_in xs m = position (λ x. x.0 == m) xs

  -- what the first of them shows
  abbrev pub first_at : {B : Type 0} → (A → B) → B → List (ℕ × A) → ℕ → B
  first_at show none [] m = none
  first_at show none (x ∷ xs) m = if x.0 == m then show x.1 else first_at show none xs m

  -- the first of them changes
  abbrev pub change_at : (A → A) → List (ℕ × A) → ℕ → List (ℕ × A)
  change_at change [] m = []
  change_at change (x ∷ xs) m = if x.0 == m then (x.0, change x.1) ∷ xs else x ∷ change_at change xs m

  -- it is the first of them
  pub record IsFirst (xs : List (ℕ × A)) (m : ℕ) (x : A) : Type 0 where
    pub there : has xs m ≡ true
    pub is : first_at (λ y. y) x xs m ≡ x

-- ---- mailboxes by their numbers

abbrev pub senders_in : List MailboxState → ℕ → ℕ
senders_in boxes m = slice_index_or (map (λ b. b.senders) boxes) m 0

abbrev pub arity_in : List MailboxState → ℕ → ℕ
arity_in boxes m = slice_index_or (map (λ b. b.arity) boxes) m 0

-- it is the mailbox of this number
pub record IsBoxAt (boxes : List MailboxState) (m : ℕ) (b : MailboxState) : Type 0 where
  pub there : m < length boxes
  pub is : slice_index_or boxes m b ≡ b

-- the pass is of the mailbox whose number stands beside it
abbrev pub IsSentAt : List MailboxState → ℕ × SendState → Type 0
IsSentAt boxes x = (b : MailboxState) × IsBoxAt boxes x.0 b × IsSendOf b x.1

abbrev pub IsTakenAt : List MailboxState → ℕ × TakeState → Type 0
IsTakenAt boxes x = (b : MailboxState) × IsBoxAt boxes x.0 b × IsTakeOf b x.1

-- ---- what a task knows of its mailboxes

abbrev pub word_at : List (ℕ × SendState) → ℕ → WriterState
word_at sends m = first_at (λ s. s.word) Initial sends m

-- what its passes of this mailbox counted, up to the end of 64 bits
abbrev pub refused_at : List (ℕ × SendState) → List (ℕ × TakeState) → ℕ → ℕ
refused_at sends takes m = min (first_at (λ s. s.refused) 0 sends m + first_at (λ t. t.refused) 0 takes m) (2 ^ 64 - 1)

abbrev pub SendsAt : PortState → ℕ → Type 0
SendsAt p m = (m < length p.boxes) × (has p.sends m ≡ true)

abbrev pub ReceivesAt : PortState → ℕ → Type 0
ReceivesAt p m = (m < length p.boxes) × (has p.takes m ≡ true)

-- ---- what an answer tells

-- at one moment of the call the mailbox was full
pub record WasFullAt (boxes : List MailboxState) (sends : List (ℕ × SendState)) (m : ℕ) : Type 0 where
  pub box : MailboxState
  pub pass : SendState
  pub is_box : IsBoxAt boxes m box
  pub is_pass : IsFirst sends m pass
  pub full : WasFull box pass

pub record WasEmptyAt (takes : List (ℕ × TakeState)) (m : ℕ) : Type 0 where
  pub pass : TakeState
  pub is_pass : IsFirst takes m pass
  pub empty : WasEmpty pass

abbrev pub TellsPutAt : List MailboxState → ℕ → List (ℕ × SendState) → Parcel → List (ℕ × SendState) → PutAnswer → Type 0
TellsPutAt boxes m old p new A.Put = new ≡ change_at (λ s. putting s p) old m
TellsPutAt boxes m old p new (A.Full back) = (back ≡ p) × WasFullAt boxes old m × (new ≡ change_at refused_put old m)

abbrev pub TellsTakeAt : List MailboxState → ℕ → List (ℕ × TakeState) → List (ℕ × TakeState) → Option (ℕ × Parcel) → Type 0
TellsTakeAt boxes m old new None = WasEmptyAt old m × (new ≡ change_at refused_take old m)
TellsTakeAt boxes m old new (Some x) = (new ≡ change_at (λ t. taking t x.0 x.1) old m) × (x.0 < senders_in boxes m) × HasArity (arity_in boxes m) x.1

-- ---- what a call of the port does

pub record PutsAt (p : PortState) (m : ℕ) (x : Parcel) (q : PortState) : Type 0 where
  pub there : has p.sends m ≡ true
  pub fits : may (word_at p.sends m) x ≡ true
  pub arity : HasArity (arity_in p.boxes m) x
  pub is : q ≡ record p { sends = change_at (λ s. putting s x) p.sends m }

pub record TakesAt (p : PortState) (m from : ℕ) (x : Parcel) (q : PortState) : Type 0 where
  pub there : has p.takes m ≡ true
  pub sender : from < senders_in p.boxes m
  pub arity : HasArity (arity_in p.boxes m) x
  pub is : q ≡ record p { takes = change_at (λ t. taking t from x) p.takes m }

pub record FullAt (p : PortState) (m : ℕ) (q : PortState) : Type 0 where
  pub there : has p.sends m ≡ true
  pub full : WasFullAt p.boxes p.sends m
  pub is : q ≡ record p { sends = change_at refused_put p.sends m }

pub record EmptyAt (p : PortState) (m : ℕ) (q : PortState) : Type 0 where
  pub there : has p.takes m ≡ true
  pub empty : WasEmptyAt p.takes m
  pub is : q ≡ record p { takes = change_at refused_take p.takes m }

-- the seat raises the word, where it hasn't
pub record RaisesAt (p q : PortState) : Type 0 where
  pub is : q ≡ record p { seat = q.seat }
  pub first : p.seat.raised ≡ false → Raises p.seat q.seat
  pub again : p.seat.raised ≡ true → q.seat ≡ p.seat

-- the seat looks, and the answer is whether it found the word raised
pub record LooksAt (p : PortState) (seen : Bool) (q : PortState) : Type 0 where
  pub is : q ≡ record p { seat = q.seat }
  pub look : Looks p.seat q.seat
  pub answer : MatchBool seen (HasSeen q.seat) (q.seat.found ≡ 0)
  pub after_seen : HasSeen p.seat → seen ≡ true
  pub after_raise : p.seat.raised ≡ true → seen ≡ true

abbrev pub PortStep : PortState → Event → PortState → Type 0
PortStep p (Put m x) q = PutsAt p m x q
PortStep p (Took m from x) q = TakesAt p m from x q
PortStep p Raise q = RaisesAt p q
PortStep p (Look seen) q = LooksAt p seen q
PortStep p (Full m) q = FullAt p m q
PortStep p (Empty m) q = EmptyAt p m q

-- ---- what the code keeps

pub record IsSeated (boxes : List MailboxState) (word : WordState) (me : SeatState) (by : List (ℕ × SendState)) (from : List (ℕ × TakeState)) : Type 0 where
  pub seat : IsSeatOf word me
  pub sends : All (IsSentAt boxes) by
  pub takes : All (IsTakenAt boxes) from
