-- What is known of a task's mailboxes.
use Rattle.std.specs.Prelude.{◌≡◌, ◌⊎◌, ◌<◌, ℕ, [], length, slice_index_or}
use Rattle.std.specs.List.{Contains}
use Rattle.hy_job.specs.declared.job.Edge.{Edge}
use Rattle.hy_job.specs.declared.job.Job.{Job}
use Rattle.hy_job.specs.declared.job.Stage.{Stage}
use Rattle.hy_job.specs.declared.job.Wire.{Wire}
use Rattle.hy_job.specs.declared.job.Wire.TheVariants as W
use Rattle.hy_job.specs.Sound.{SoundJob, activity, arity_of, edges_at, edges_from, width_in}
use Rattle.hy_job.specs.Stages.{IsPart}
use Rattle.hy_job.specs.Runs.{ReceivesOver}
use Rattle.hy_job.specs.Boxes.{IsBox, StageBox, origin}
use Rattle.hy_places.specs.Places.{AreDifferent, IsFirst, inboxes_count, inboxes_of, outboxes_of, receiver_at, receivers_count, sender_at, senders_count, senders_each}

-- ---- stages

-- the activity is in one stage alone
abbrev pub StagesAreOwn : Type 0
StagesAreOwn = (job : Job) (s t : Stage) → IsPart job s.activities → IsPart job t.activities → (a : ℕ) → Contains s.activities a → Contains t.activities a → s ≡ t

-- ---- senders and receivers, by wires

-- the numbers of a task's mailboxes are those of its senders, each once
pub record AreItsSenders (w : Wire) (n j : ℕ) : Type 0 where
  pub within : (k i : ℕ) → k < inboxes_count w n j → i < senders_each w n → sender_at w j k i < n
  pub sends : (k i : ℕ) → k < inboxes_count w n j → i < senders_each w n → ReceivesOver w n (sender_at w j k i) j
  pub all : (s : ℕ) → s < n → ReceivesOver w n s j → (k i : ℕ) × (k < inboxes_count w n j) × (i < senders_each w n) × (sender_at w j k i ≡ s)
  pub once : (k i l h : ℕ) → k < inboxes_count w n j → i < senders_each w n → l < inboxes_count w n j → h < senders_each w n → sender_at w j k i ≡ sender_at w j l h → (k ≡ l) × (i ≡ h)

abbrev pub SendersHavePlaces : Type 0
SendersHavePlaces = (w : Wire) (n j : ℕ) → j < n → AreItsSenders w n j

-- and the places of those into which it puts are its receivers, each once
pub record AreItsReceivers (w : Wire) (n j : ℕ) : Type 0 where
  pub some : 0 < receivers_count w n
  pub within : (k : ℕ) → k < receivers_count w n → receiver_at w j k < n
  pub receives : (k : ℕ) → k < receivers_count w n → ReceivesOver w n j (receiver_at w j k)
  pub all : (r : ℕ) → r < n → ReceivesOver w n j r → (k : ℕ) × (k < receivers_count w n) × (receiver_at w j k ≡ r)
  pub once : (k l : ℕ) → k < receivers_count w n → l < receivers_count w n → receiver_at w j k ≡ receiver_at w j l → k ≡ l

abbrev pub ReceiversHavePlaces : Type 0
ReceiversHavePlaces = (w : Wire) (n j : ℕ) → j < n → AreItsReceivers w n j

-- a wire that merges has one sender for each mailbox; any other has one mailbox with all its senders, or none where there is no sender
abbrev pub HasOneBox : Wire → ℕ → ℕ → Type 0
HasOneBox (W.Merge keys) n j = (senders_count (W.Merge keys) n j ≡ inboxes_count (W.Merge keys) n j) × (senders_each (W.Merge keys) n ≡ 1)
HasOneBox w n j = ((inboxes_count w n j ≡ 1) × (0 < senders_count w n j) × (senders_each w n ≡ senders_count w n j)) ⊎ ((inboxes_count w n j ≡ 0) × (senders_count w n j ≡ 0))

abbrev pub SendersAreCounted : Type 0
SendersAreCounted = (w : Wire) (n j : ℕ) → j < n → HasOneBox w n j

-- ---- mailboxes of a task

-- the mailbox in a place of those from which a task takes at an input
pub record IsInbox (job : Job) (stage : Stage) (a input j k : ℕ) (b : StageBox) : Type 0 where
  pub is : IsBox job stage (slice_index_or (inboxes_of job stage a input j) k 0) b
  pub edge : Contains job.edges b.edge
  pub fed : IsFirst b.edge (edges_at job a input)
  pub to : b.edge.to ≡ a
  pub feeds : b.edge.input ≡ input
  pub receiver : b.receiver ≡ j
  pub senders : length b.senders ≡ senders_each b.edge.wire job.partitions
  pub origins : (i : ℕ) → i < length b.senders → origin b i ≡ (input, sender_at b.edge.wire j k i)
  pub arity : b.arity ≡ width_in job a input
  pub holds : 0 < b.capacity

abbrev pub InboxesAreTaken : Type 0
InboxesAreTaken = (job : Job) (stage : Stage) → SoundJob job → (a input j k : ℕ) → Contains stage.activities a → j < job.partitions → k < length (inboxes_of job stage a input j)
    → (b : StageBox) × IsInbox job stage a input j k b

-- the mailbox in a place of those into which a task puts
pub record IsOutbox (job : Job) (stage : Stage) (a j k : ℕ) (b : StageBox) : Type 0 where
  pub is : IsBox job stage (slice_index_or (outboxes_of job stage a j) k 0) b
  pub edge : Contains job.edges b.edge
  pub left : IsFirst b.edge (edges_from job a)
  pub from : b.edge.from ≡ a
  pub receiver : b.receiver ≡ receiver_at b.edge.wire j k
  pub sender : Contains b.senders j
  pub arity : b.arity ≡ arity_of (activity job a)
  pub holds : 0 < b.capacity

abbrev pub OutboxesArePut : Type 0
OutboxesArePut = (job : Job) (stage : Stage) → SoundJob job → IsPart job stage.activities → (a j k : ℕ) → Contains stage.activities a → j < job.partitions → k < length (outboxes_of job stage a j)
    → (b : StageBox) × IsOutbox job stage a j k b

-- how many there are
pub record AreCounted (job : Job) (stage : Stage) (a input j : ℕ) : Type 0 where
  pub fed : (e : Edge) → IsFirst e (edges_at job a input) → length (inboxes_of job stage a input j) ≡ inboxes_count e.wire job.partitions j
  pub unfed : edges_at job a input ≡ [] → inboxes_of job stage a input j ≡ []
  pub left : (e : Edge) → IsFirst e (edges_from job a) → length (outboxes_of job stage a j) ≡ receivers_count e.wire job.partitions
  pub unleft : edges_from job a ≡ [] → outboxes_of job stage a j ≡ []

abbrev pub BoxesAreCounted : Type 0
BoxesAreCounted = (job : Job) (stage : Stage) (a input j : ℕ) → AreCounted job stage a input j

-- a mailbox from which a task takes is in one place of one input, and no other task's
abbrev pub InboxesAreOwn : Type 0
InboxesAreOwn = (job : Job) (stage : Stage) → SoundJob job → (a input j k b other l m : ℕ) → Contains stage.activities a → Contains stage.activities b → j < job.partitions → l < job.partitions
    → k < length (inboxes_of job stage a input j) → m < length (inboxes_of job stage b other l)
    → slice_index_or (inboxes_of job stage a input j) k 0 ≡ slice_index_or (inboxes_of job stage b other l) m 0
    → (a ≡ b) × (input ≡ other) × (j ≡ l) × (k ≡ m)

-- and those into which it puts differ
abbrev pub OutboxesDiffer : Type 0
OutboxesDiffer = (job : Job) (stage : Stage) → SoundJob job → IsPart job stage.activities → (a j : ℕ) → Contains stage.activities a → j < job.partitions → AreDifferent (outboxes_of job stage a j)
