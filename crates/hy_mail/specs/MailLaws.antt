-- What the rule of a mailbox says at every moment, and which steps keep it.
use Rattle.std.specs.Prelude.{◌≡◌, ℕ, true, false, List, [], ◌∷◌, ◌++◌, length, ◌⊎◌, All}
use mathlib.Core.Option.{some}
use lib.ListN.{get_elem?}
use Rattle.crossbeam_queue.specs.Fifo.{Forks, Merges, Pops, Pushes}
use Rattle.hy_mail.specs.declared.parcel.Posted.{Posted}
use Rattle.hy_mail.specs.declared.rule.MailView.{MailView}
use Rattle.hy_mail.specs.DeskRuns.{of_sender}
use Rattle.hy_mail.specs.Desks.{IsPostedIn}
use Rattle.hy_mail.specs.Mails.{Mails, Popped, dealt, joined, maker, pushing, sender, spent}
use Rattle.hy_mail.specs.Words.{HasArity, IsWordSoFar}

-- ---- the rule holds at the start, and each kind of step keeps it

abbrev pub MailBegins : Type 0
MailBegins = Mails [] (maker ∷ [])

-- a sender puts what may come next in its word, with its own number, and of the mailbox's arity
abbrev pub PushKeeps : Type 0
PushKeeps = (n pass : ℕ) (v : MailView) (x : Posted) → v.sends ≡ true → v.takes ≡ false → v.from ≡ x.from → HasArity v.arity x.parcel → IsWordSoFar (v.put ++ x.parcel ∷ [])
    → Pushes Mails n pass v x (λ w. w ≡ pushing v x)

abbrev pub PopKeeps : Type 0
PopKeeps = (pass : ℕ) (v : MailView) → v.takes ≡ true → v.sends ≡ false → Pops Mails pass v (Popped v)

-- the first number that is dealt settles the arity
abbrev pub DealKeeps : Type 0
DealKeeps = (pass arity : ℕ) (v : MailView) → v.takes ≡ true → v.sends ≡ false → (v.made ≡ 0) ⊎ (v.arity ≡ arity) → Forks Mails pass v (dealt arity v) (sender v.made arity)

-- senders are taken in by their numbers
abbrev pub TakeInKeeps : Type 0
TakeInKeeps = (pass : ℕ) (v : MailView) (other : ℕ) (u : MailView) → v.takes ≡ true → v.sends ≡ false → u.sends ≡ true → u.from ≡ length v.known → Merges Mails pass v other u (joined v u) spent

-- ---- what it says

module _ where
  -- the view stands among these
  abbrev At : List MailView → ℕ → MailView → Type 0
  At views pass v = get_elem? views pass ≡ some v

  abbrev pub OneTakes : Type 0
  OneTakes = (items : List Posted) (views : List MailView) → Mails items views → (i j : ℕ) (t u : MailView) → At views i t → At views j u → t.takes ≡ true → u.takes ≡ true → i ≡ j

  abbrev pub NumbersAreApart : Type 0
  NumbersAreApart = (items : List Posted) (views : List MailView) → Mails items views → (i j : ℕ) (v w : MailView) → At views i v → At views j w → v.sends ≡ true → w.sends ≡ true → v.from ≡ w.from → i ≡ j

  -- what a sender put is its parcels among those that were taken, and then its parcels in the mailbox
  abbrev pub PutIsTakenOrHeld : Type 0
  PutIsTakenOrHeld = (items : List Posted) (views : List MailView) → Mails items views → (i j : ℕ) (t v : MailView) → At views i t → At views j v → t.takes ≡ true → v.sends ≡ true
      → (v.put ≡ of_sender v.from (t.took ++ items)) × IsWordSoFar v.put

  -- what the mailbox holds is of its senders and of its arity
  abbrev pub HeldIsPosted : Type 0
  HeldIsPosted = (items : List Posted) (views : List MailView) → Mails items views → (i : ℕ) (t : MailView) → At views i t → t.takes ≡ true → All (IsPostedIn t.made t.arity) items
