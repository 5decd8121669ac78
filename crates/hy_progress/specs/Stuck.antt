-- The tasks and the mailboxes of a stage at a moment, as far as it matters for whether some task can go on.
use Rattle.std.specs.Prelude.{◌≡◌, ◌⊎◌, ◌<◌, ◌≤◌, ℕ, Bool, true, false}
use Rattle.std.specs.List.{Contains}
use Rattle.hy_job.specs.declared.job.Wire.{Wire}
use Rattle.hy_job.specs.declared.job.Wire.TheVariants as W
use Rattle.hy_job.specs.declared.job.Edge.{Edge}
use Rattle.hy_job.specs.declared.job.Job.{Job}
use Rattle.hy_job.specs.declared.job.Stage.{Stage}
use Rattle.hy_job.specs.Sound.{SoundJob}
use Rattle.hy_job.specs.Stages.{IsPart}
use Rattle.hy_job.specs.Boxes.{StageBox, IsBox, box_to, boxes_of}
use Rattle.hy_job.specs.Runs.{ReceivesOver}

pub record View : Type 0 where
  -- whether the task of an activity in a partition is done
  pub done : ℕ → ℕ → Bool
  -- whether it has put its Close for a receiving partition
  pub put_close : ℕ → ℕ → ℕ → Bool
  -- whether it has taken, at an input, the Close of a sending partition
  pub took_close : ℕ → ℕ → ℕ → ℕ → Bool
  -- whether it has, at an input, a row of a sending partition at hand
  pub at_hand : ℕ → ℕ → ℕ → ℕ → Bool
  -- how many signals are in the mailbox of a number
  pub held : ℕ → ℕ

-- in this stage, the task of partition `s` sends over the edge to that of partition `r`
pub record IsOver (job : Job) (stage : Stage) (e : Edge) (s r : ℕ) : Type 0 where
  pub edge : Contains job.edges e
  pub ends : Contains stage.activities e.to
  pub sender : s < job.partitions
  pub receiver : r < job.partitions
  pub over : ReceivesOver e.wire job.partitions s r

-- how many signals are in the mailbox through which it sends
abbrev pub held_over : Job → Stage → View → Edge → ℕ → ℕ → ℕ
held_over job stage v e s r = v.held (box_to (boxes_of job stage) e r s)

-- what is true whatever the tasks did so far
pub record IsView (job : Job) (stage : Stage) (v : View) : Type 0 where
  -- who is done has put its Close for each receiver, and taken that of each sender
  pub put_all : (e : Edge) (s r : ℕ) → IsOver job stage e s r → v.done e.from s ≡ true → v.put_close e.from s r ≡ true
  pub took_all : (e : Edge) (s r : ℕ) → IsOver job stage e s r → v.done e.to r ≡ true → v.took_close e.to r e.input s ≡ true
  -- a Close that was taken was put; one that was put and not taken is in the mailbox
  pub put_first : (e : Edge) (s r : ℕ) → IsOver job stage e s r → v.took_close e.to r e.input s ≡ true → v.put_close e.from s r ≡ true
  pub in_mailbox : (e : Edge) (s r : ℕ) → IsOver job stage e s r → v.put_close e.from s r ≡ true → v.took_close e.to r e.input s ≡ false → 0 < held_over job stage v e s r

-- ---- tasks whose next step would do nothing

-- the put that comes next finds its mailbox full, and its Close is still to be put there
pub record FindsFull (job : Job) (stage : Stage) (v : View) (a j : ℕ) : Type 0 where
  pub edge : Edge
  pub leaves : edge.from ≡ a
  pub to : ℕ
  pub over : IsOver job stage edge j to
  pub full : (b : StageBox) → IsBox job stage (box_to (boxes_of job stage) edge to j) b → b.capacity ≤ held_over job stage v edge j to
  pub unclosed : v.put_close a j to ≡ false

-- whose signals may be taken next: those of each sender that has not closed, and over a merging wire those of the first
-- such sender that has no row at hand
abbrev pub IsAsked : Wire → (ℕ → Bool) → (ℕ → Bool) → ℕ → Type 0
IsAsked W.OneToOne closed at_hand s = closed s ≡ false
IsAsked (W.Hash columns) closed at_hand s = closed s ≡ false
IsAsked W.Broadcast closed at_hand s = closed s ≡ false
IsAsked W.Gather closed at_hand s = closed s ≡ false
IsAsked (W.Merge keys) closed at_hand s = (closed s ≡ false) × (at_hand s ≡ false) × ((t : ℕ) → t < s → (closed t ≡ true) ⊎ (at_hand t ≡ true))

-- the task of partition `r` may take next what the one of partition `s` sent over the edge
pub record MayTake (job : Job) (stage : Stage) (v : View) (e : Edge) (s r : ℕ) : Type 0 where
  pub over : IsOver job stage e s r
  pub asked : IsAsked e.wire (v.took_close e.to r e.input) (v.at_hand e.to r e.input) s

-- an input has not ended, and each take that may come next finds its mailbox empty
pub record FindsEmpty (job : Job) (stage : Stage) (v : View) (a j : ℕ) : Type 0 where
  pub edge : Edge
  pub enters : edge.to ≡ a
  pub sender : ℕ
  pub over : IsOver job stage edge sender j
  pub unclosed : v.took_close a j edge.input sender ≡ false
  -- a merge that has a row at hand of each sender that has not closed would go on without a take
  pub waits : (e : Edge) (s : ℕ) → e.to ≡ a → IsOver job stage e s j → v.took_close a j e.input s ≡ false → (t : ℕ) × MayTake job stage v e t j
  pub empty : (e : Edge) (s : ℕ) → e.to ≡ a → MayTake job stage v e s j → held_over job stage v e s j ≡ 0

abbrev pub IsIdle : Job → Stage → View → ℕ → ℕ → Type 0
IsIdle job stage v a j = FindsFull job stage v a j ⊎ FindsEmpty job stage v a j

-- every task of the stage is done, or its next step would do nothing
abbrev pub AllWait : Job → Stage → View → Type 0
AllWait job stage v = (a j : ℕ) → Contains stage.activities a → j < job.partitions → (v.done a j ≡ true) ⊎ IsIdle job stage v a j

-- then every task is done: while one is not, some task can go on
abbrev pub NeverStuck : Type 0
NeverStuck = (job : Job) (stage : Stage) (v : View) → SoundJob job → IsPart job stage.activities → IsView job stage v → AllWait job stage v
    → (a j : ℕ) → Contains stage.activities a → j < job.partitions → v.done a j ≡ true
