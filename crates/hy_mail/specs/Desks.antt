-- The mailboxes of one thread.
use Rattle.std.specs.Prelude.{◌≡◌, ◌<◌, ◌≤◌, ◌==◌, ℕ, Bool, true, false, List, [], ◌∷◌, ◌++◌, length, map, replicate, slice_index_or, slice_set, Option, Some, None, position}
use Rattle.hy_frame.specs.Bank.{one_more}
use Rattle.hy_frame.specs.declared.writer.WriterState.{WriterState}
use Rattle.hy_frame.specs.declared.writer.WriterState.TheVariants.{Initial}
use Rattle.hy_mail.specs.declared.parcel.Parcel.{Parcel}
use Rattle.hy_mail.specs.declared.parcel.Posted.{Posted}
use Rattle.hy_mail.specs.declared.plan.BoxPlan.{BoxPlan}
use Rattle.hy_mail.specs.Words.{HasArity, may, next}
use Rattle.hy_mail.specs.Events.{Event, Put, Took, Raise, Look, Full, Empty}

-- one mailbox: its parcels, the front first, its senders, how far the word of each has come, its receiver, how many parcels it
-- holds, the arity of its frames, and how often it was found full or empty
pub record BoxState : Type 0 where
  pub queue : List Posted
  pub senders : List ℕ
  pub words : List WriterState
  pub receiver : ℕ
  pub capacity : ℕ
  pub arity : ℕ
  pub refused : ℕ

pub record DeskState : Type 0 where
  pub boxes : List BoxState
  pub raised : Bool

abbrev pub blank : BoxState
blank = record { queue = []; senders = []; words = []; receiver = 0; capacity = 0; arity = 0; refused = 0 }

-- the mailbox of this number
abbrev pub box : DeskState → ℕ → BoxState
box d m = slice_index_or d.boxes m blank

abbrev pub with_box : DeskState → ℕ → BoxState → DeskState
with_box d m b = record { boxes = slice_set d.boxes m b; raised = d.raised }

-- ---- how a desk begins

abbrev pub fresh_box : BoxPlan → BoxState
fresh_box plan = record {
  queue = [];
  senders = plan.senders;
  words = replicate (length plan.senders) Initial;
  receiver = plan.receiver;
  capacity = plan.capacity;
  arity = plan.arity;
  refused = 0;
}

abbrev pub fresh_desk : List BoxPlan → DeskState
fresh_desk plans = record { boxes = map fresh_box plans; raised = false }

-- ---- whose mailbox it is

-- the number of a task among the senders
abbrev pub seat_of : List ℕ → ℕ → Option ℕ
seat_of senders task = position (λ sender. sender == task) senders

-- the task is a sender of the mailbox
abbrev pub Sends : DeskState → ℕ → ℕ → Type 0
Sends d task m = (s : ℕ) × (m < length d.boxes) × (seat_of (box d m).senders task ≡ Some s)

-- the task is the receiver of the mailbox
abbrev pub Receives : DeskState → ℕ → ℕ → Type 0
Receives d task m = (m < length d.boxes) × ((box d m).receiver ≡ task)

abbrev pub word_at : List WriterState → Option ℕ → WriterState
word_at words None = Initial
word_at words (Some s) = slice_index_or words s Initial

-- how far the word of a task at a mailbox has come
abbrev pub word_of : DeskState → ℕ → ℕ → WriterState
word_of d task m = word_at (box d m).words (seat_of (box d m).senders task)

-- ---- what may happen to a mailbox

-- a parcel of this sender joins at the back
abbrev pub pushed : BoxState → ℕ → Parcel → BoxState
pushed b s p = record {
  queue = b.queue ++ record { from = s; parcel = p } ∷ [];
  senders = b.senders;
  words = slice_set b.words s (next (slice_index_or b.words s Initial) p);
  receiver = b.receiver;
  capacity = b.capacity;
  arity = b.arity;
  refused = b.refused;
}

-- the front leaves, and this is left
abbrev pub popped : BoxState → List Posted → BoxState
popped b rest = record {
  queue = rest;
  senders = b.senders;
  words = b.words;
  receiver = b.receiver;
  capacity = b.capacity;
  arity = b.arity;
  refused = b.refused;
}

-- it was found full or empty once more
abbrev pub refusing : BoxState → BoxState
refusing b = record {
  queue = b.queue;
  senders = b.senders;
  words = b.words;
  receiver = b.receiver;
  capacity = b.capacity;
  arity = b.arity;
  refused = one_more b.refused;
}

-- it comes from one of so many senders, and its frame has this arity
abbrev pub IsPostedIn : ℕ → ℕ → Posted → Type 0
IsPostedIn senders arity x = (x.from < senders) × HasArity arity x.parcel

-- what was found at the front
abbrev pub Found : BoxState → BoxState → Option (ℕ × Parcel) → Type 0
Found b new None = (b.queue ≡ []) × (new ≡ b)
Found b new (Some x) = (rest : List Posted) × (b.queue ≡ record { from = x.0; parcel = x.1 } ∷ rest) × (new ≡ popped b rest)
    × (x.0 < length b.senders) × HasArity b.arity x.1

-- ---- what a task's step may do to the desk

-- the task puts the parcel, which its word admits, into a mailbox that isn't full
pub record Puts (task : ℕ) (d : DeskState) (m : ℕ) (p : Parcel) (e : DeskState) : Type 0 where
  pub there : m < length d.boxes
  pub number : ℕ
  pub seat : seat_of (box d m).senders task ≡ Some number
  pub known : number < length (box d m).words
  pub room : length (box d m).queue < (box d m).capacity
  pub fits : may (word_of d task m) p ≡ true
  pub arity : HasArity (box d m).arity p
  pub is : e ≡ with_box d m (pushed (box d m) number p)

-- the task, which is the receiver, takes the front
pub record Takes (task : ℕ) (d : DeskState) (m s : ℕ) (p : Parcel) (e : DeskState) : Type 0 where
  pub there : m < length d.boxes
  pub mine : (box d m).receiver ≡ task
  pub rest : List Posted
  pub queue : (box d m).queue ≡ record { from = s; parcel = p } ∷ rest
  pub sender : s < length (box d m).senders
  pub arity : HasArity (box d m).arity p
  pub is : e ≡ with_box d m (popped (box d m) rest)

abbrev pub DeskStep : ℕ → DeskState → Event → DeskState → Type 0
DeskStep task d (Put m p) e = Puts task d m p e
DeskStep task d (Took m s p) e = Takes task d m s p e
DeskStep task d Raise e = e ≡ record { boxes = d.boxes; raised = true }
DeskStep task d (Look seen) e = (seen ≡ d.raised) × (e ≡ d)
DeskStep task d (Full m) e = (m < length d.boxes) × ((box d m).capacity ≤ length (box d m).queue) × (e ≡ with_box d m (refusing (box d m)))
DeskStep task d (Empty m) e = (m < length d.boxes) × ((box d m).queue ≡ []) × (e ≡ with_box d m (refusing (box d m)))
