-- What a mailbox of threads keeps: what each sender put is what was taken of it, and then what the mailbox holds of it.
use Rattle.std.specs.Prelude.{◌≡◌, ◌⊎◌, ◌<◌, ◌≤◌, ◌+◌, ℕ, true, false, List, [], ◌∷◌, ◌++◌, length, slice_index_or, Option, Some, None, All}
use mathlib.Core.Option.{some}
use lib.ListN.{get_elem?}
use Rattle.hy_frame.specs.declared.writer.WriterState.{WriterState}
use Rattle.hy_frame.specs.declared.writer.WriterState.TheVariants.{Initial}
use Rattle.hy_mail.specs.declared.parcel.Parcel.{Parcel}
use Rattle.hy_mail.specs.declared.parcel.Posted.{Posted}
use Rattle.hy_mail.specs.declared.rule.MailView.{MailView}
use Rattle.hy_mail.specs.DeskRuns.{of_sender}
use Rattle.hy_mail.specs.Desks.{IsPostedIn}
use Rattle.hy_mail.specs.Words.{IsWordSoFar, Leads}

-- ---- views

-- that of the pass which makes the mailbox, deals its numbers and then takes; of a sender; and of a pass that is spent
abbrev pub maker : MailView
maker = record { takes = true; sends = false; from = 0; made = 0; arity = 0; put = []; took = []; known = [] }

abbrev pub sender : ℕ → ℕ → MailView
sender number arity = record { takes = false; sends = true; from = number; made = 0; arity = arity; put = []; took = []; known = [] }

abbrev pub spent : MailView
spent = record { takes = false; sends = false; from = 0; made = 0; arity = 0; put = []; took = []; known = [] }

-- one number more was dealt
abbrev pub dealt : ℕ → MailView → MailView
dealt arity v = record v { made = v.made + 1; arity = arity }

-- a sender was taken in
abbrev pub joined : MailView → MailView → MailView
joined v w = record v { known = v.known ++ w.put ∷ [] }

abbrev pub pushing : MailView → Posted → MailView
pushing v x = record v { put = v.put ++ x.parcel ∷ [] }

abbrev pub popping : MailView → Posted → MailView
popping v x = record v { took = v.took ++ x ∷ [] }

-- ---- the rule

-- what is so beside the views: the pass that takes, the pass of each sender that was not taken in, what each sender put, what was
-- taken, how many numbers were dealt, how many of the senders were taken in, from the first on, and the arity
pub record Ledger : Type 0 where
  pub taker : ℕ
  pub seat : ℕ → Option ℕ
  pub sent : ℕ → List Parcel
  pub took : List Posted
  pub made : ℕ
  pub gone : ℕ
  pub arity : ℕ

-- a sender's number is its pass's, which knows what it put
pub record FitsSender (l : Ledger) (pass : ℕ) (v : MailView) : Type 0 where
  pub seat : l.seat v.from ≡ Some pass
  pub put : v.put ≡ l.sent v.from
  pub below : v.from < l.made
  pub arity : v.arity ≡ l.arity

-- one pass takes, and knows what it took, how many numbers it dealt, and what those that it took in had put
pub record FitsTaker (l : Ledger) (pass : ℕ) (v : MailView) : Type 0 where
  pub only : pass ≡ l.taker
  pub took : v.took ≡ l.took
  pub made : v.made ≡ l.made
  pub arity : v.arity ≡ l.arity
  pub gone : length v.known ≡ l.gone
  pub known : (k : ℕ) → k < l.gone → slice_index_or v.known k [] ≡ l.sent k

pub record Fits (l : Ledger) (pass : ℕ) (v : MailView) : Type 0 where
  pub sender : v.sends ≡ true → FitsSender l pass v
  pub taker : v.takes ≡ true → FitsTaker l pass v
  -- what neither sends nor takes holds nothing
  pub silent : v.sends ≡ false → v.put ≡ []
  pub idle : v.takes ≡ false → (v.took ≡ []) × (v.known ≡ [])

-- the sender's number is in one view
pub record HasPass (l : Ledger) (views : List MailView) (number : ℕ) : Type 0 where
  pub pass : ℕ
  pub view : MailView
  pub seat : l.seat number ≡ Some pass
  pub there : get_elem? views pass ≡ some view
  pub sends : view.sends ≡ true
  pub from : view.from ≡ number

pub record Keeps (l : Ledger) (items : List Posted) (views : List MailView) : Type 0 where
  -- what a sender put is its parcels among what was taken, and then its parcels in the mailbox, in order
  pub delivered : (p : ℕ) → of_sender p (l.took ++ items) ≡ l.sent p
  pub words : (p : ℕ) → IsWordSoFar (l.sent p)
  pub posted : All (IsPostedIn l.made l.arity) items
  -- each number is in one view, was taken in, or is still to be dealt
  pub alive : (p : ℕ) → l.gone ≤ p → p < l.made → HasPass l views p
  pub ended : (p : ℕ) → p < l.gone → l.seat p ≡ None
  pub later : (p : ℕ) → l.made ≤ p → (l.seat p ≡ None) × (l.sent p ≡ [])
  pub gone : l.gone ≤ l.made
  pub fits : (pass : ℕ) (v : MailView) → get_elem? views pass ≡ some v → Fits l pass v

abbrev pub Mails : List Posted → List MailView → Type 0
Mails items views = (l : Ledger) × Keeps l items views

-- ---- what passes learn

-- the front was taken, which is of a sender of the mailbox and of its arity
abbrev pub Popped : MailView → Posted → MailView → Type 0
Popped v x w = (w ≡ popping v x) × IsPostedIn v.made v.arity x

-- what a sender knows: what it put is what was taken of it and what is there
abbrev pub KnowsPut : MailView → List Posted → Type 0
KnowsPut v items = (took : List Posted) × (of_sender v.from (took ++ items) ≡ v.put)

-- what the taker knows: what it took of each sender is with what is there a word so far
abbrev pub KnowsWords : MailView → List Posted → Type 0
KnowsWords v items = (p : ℕ) → IsWordSoFar (of_sender p (v.took ++ items))

-- and of each sender that it took in, what that put is what was taken of it and what is there, and a word so far
abbrev pub KnowsAll : MailView → List Posted → Type 0
KnowsAll v items = (k : ℕ) → k < length v.known → (of_sender k (v.took ++ items) ≡ slice_index_or v.known k []) × IsWordSoFar (slice_index_or v.known k [])

-- ---- what the code keeps of views

-- a sender's pass: the words of what it put have come this far
pub record IsSender (number : ℕ) (word : WriterState) (v : MailView) : Type 0 where
  pub sends : v.sends ≡ true
  pub takes : v.takes ≡ false
  pub from : v.from ≡ number
  pub leads : Leads Initial v.put word

-- the taker's pass, which has taken no other in
pub record IsTaker (v : MailView) : Type 0 where
  pub takes : v.takes ≡ true
  pub sends : v.sends ≡ false
  pub known : v.known ≡ []

-- the pass of the maker, which has dealt so many numbers at this arity and took nothing
pub record IsMaker (number kept : ℕ) (v : MailView) : Type 0 where
  pub taker : IsTaker v
  pub made : v.made ≡ number
  pub arity : (v.made ≡ 0) ⊎ (v.arity ≡ kept)
  pub took : v.took ≡ []
