-- What one step of a task may do to the mailboxes and the abort word of its stage.
use Rattle.std.specs.Prelude.{◌≡◌, ℕ, Bool, Option, Some, None, ◌==◌, if◌then◌else◌}
use Rattle.hy_frame.specs.Bank.{one_more}
use Rattle.hy_frame.specs.declared.writer.WriterState.{WriterState}
use Rattle.hy_mail.specs.Words.{next}
use Rattle.hy_mail.specs.declared.parcel.Parcel.{Parcel}
use Rattle.hy_mail.specs.declared.parcel.PutAnswer.{PutAnswer}
use Rattle.hy_mail.specs.declared.parcel.PutAnswer.TheVariants as A

pub data Event : Type 0 where
  Put : (mailbox : ℕ) → (parcel : Parcel) → Event
  Took : (mailbox : ℕ) → (sender : ℕ) → (parcel : Parcel) → Event
  Raise : Event
  Look : (seen : Bool) → Event
  -- the mailbox was found full, or empty, and nothing else happened
  Full : (mailbox : ℕ) → Event
  Empty : (mailbox : ℕ) → Event

-- what an answer of `put` tells, by a port's relation
abbrev pub TellsPut : {P : Type 0} → (P → Event → P → Type 0) → P → ℕ → Parcel → P → PutAnswer → Type 0
TellsPut happens old m parcel new A.Put = happens old (Put m parcel) new
TellsPut happens old m parcel new (A.Full back) = (back ≡ parcel) × happens old (Full m) new

-- what an answer of `take` tells
abbrev pub TellsTake : {P : Type 0} → (P → Event → P → Type 0) → P → ℕ → P → Option (ℕ × Parcel) → Type 0
TellsTake happens old m new (Some x) = happens old (Took m x.0 x.1) new
TellsTake happens old m new None = happens old (Empty m) new

-- how far the word at a mailbox has come after an event
abbrev pub word_after : Event → ℕ → WriterState → WriterState
word_after (Put k p) m w = if k == m then next w p else w
word_after (Took k s p) m w = w
word_after Raise m w = w
word_after (Look seen) m w = w
word_after (Full k) m w = w
word_after (Empty k) m w = w

-- how often a mailbox was found full or empty after an event
abbrev pub refused_after : Event → ℕ → ℕ → ℕ
refused_after (Put k p) m n = n
refused_after (Took k s p) m n = n
refused_after Raise m n = n
refused_after (Look seen) m n = n
refused_after (Full k) m n = if k == m then one_more n else n
refused_after (Empty k) m n = if k == m then one_more n else n
