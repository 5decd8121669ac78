-- The mailboxes of a task: those that it takes from at an input, and those into which it puts.
use Rattle.std.specs.Prelude.{◌≡◌, ◌<◌, ℕ, nat_eq, List, [], ◌∷◌, map, length, slice_index_or, if◌then◌else◌}
use Rattle.std.specs.List.{range_with_len}
use Rattle.hy_job.specs.declared.job.Edge.{Edge}
use Rattle.hy_job.specs.declared.job.Job.{Job}
use Rattle.hy_job.specs.declared.job.Stage.{Stage}
use Rattle.hy_job.specs.declared.job.Wire.{Wire}
use Rattle.hy_job.specs.declared.job.Wire.TheVariants as W
use Rattle.hy_job.specs.Sound.{edges_at, edges_from}
use Rattle.hy_job.specs.Boxes.{box_to, boxes_of}

-- ---- what a task takes from

-- how many mailboxes the task in partition `j` takes from at such a wire's end: a merging wire has one for each sender
abbrev pub inboxes_count : Wire → ℕ → ℕ → ℕ
inboxes_count W.OneToOne n j = 1
inboxes_count (W.Hash columns) n j = 1
inboxes_count W.Broadcast n j = 1
inboxes_count W.Gather n j = if nat_eq j 0 then 1 else 0
inboxes_count (W.Merge keys) n j = if nat_eq j 0 then n else 0

-- how many senders each of them has
abbrev pub senders_each : Wire → ℕ → ℕ
senders_each W.OneToOne n = 1
senders_each (W.Hash columns) n = n
senders_each W.Broadcast n = n
senders_each W.Gather n = n
senders_each (W.Merge keys) n = 1

-- how many senders the task has there in all
abbrev pub senders_count : Wire → ℕ → ℕ → ℕ
senders_count W.OneToOne n j = 1
senders_count (W.Hash columns) n j = n
senders_count W.Broadcast n j = n
senders_count W.Gather n j = if nat_eq j 0 then n else 0
senders_count (W.Merge keys) n j = if nat_eq j 0 then n else 0

-- the partition of the sender with number `i` of the mailbox in place `k`
abbrev pub sender_at : Wire → ℕ → ℕ → ℕ → ℕ
sender_at W.OneToOne j k i = j
sender_at (W.Hash columns) j k i = i
sender_at W.Broadcast j k i = i
sender_at W.Gather j k i = i
sender_at (W.Merge keys) j k i = k

-- at the end of an edge, the mailbox in each place is that into which its first sender puts
abbrev pub inboxes_over : Job → Stage → Edge → ℕ → List ℕ
inboxes_over job stage e j = map (λ k. box_to (boxes_of job stage) e j (sender_at e.wire j k 0)) (range_with_len 0 (inboxes_count e.wire job.partitions j))

-- ---- what a task puts into

-- how many receivers a task has over a wire
abbrev pub receivers_count : Wire → ℕ → ℕ
receivers_count W.OneToOne n = 1
receivers_count (W.Hash columns) n = n
receivers_count W.Broadcast n = n
receivers_count W.Gather n = 1
receivers_count (W.Merge keys) n = 1

-- the partition of the receiver in place `k`
abbrev pub receiver_at : Wire → ℕ → ℕ → ℕ
receiver_at W.OneToOne j k = j
receiver_at (W.Hash columns) j k = k
receiver_at W.Broadcast j k = k
receiver_at W.Gather j k = 0
receiver_at (W.Merge keys) j k = 0

abbrev pub outboxes_over : Job → Stage → Edge → ℕ → List ℕ
outboxes_over job stage e j = map (λ k. box_to (boxes_of job stage) e (receiver_at e.wire j k) j) (range_with_len 0 (receivers_count e.wire job.partitions))

-- ---- by the activity

-- the numbers that the first of these edges gives, or none where there is no edge
abbrev pub by_first : (Edge → List ℕ) → List Edge → List ℕ
by_first f [] = []
by_first f (e ∷ es) = f e

-- the numbers of the mailboxes from which the activity's task of partition `j` takes at an input, in the order of the senders
abbrev pub inboxes_of : Job → Stage → ℕ → ℕ → ℕ → List ℕ
inboxes_of job stage a input j = by_first (λ e. inboxes_over job stage e j) (edges_at job a input)

-- and of those into which it puts, in the order of the receivers
abbrev pub outboxes_of : Job → Stage → ℕ → ℕ → List ℕ
outboxes_of job stage a j = by_first (λ e. outboxes_over job stage e j) (edges_from job a)

-- the edge is the first of these
pub record IsFirst (e : Edge) (edges : List Edge) : Type 0 where
  pub rest : List Edge
  pub is : edges ≡ e ∷ rest

-- no two of these numbers are equal
abbrev pub AreDifferent : List ℕ → Type 0
AreDifferent boxes = (j k : ℕ) → j < length boxes → k < length boxes → slice_index_or boxes j 0 ≡ slice_index_or boxes k 0 → j ≡ k
