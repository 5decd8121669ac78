-- The tasks and the mailboxes of a stage by their numbers: a record counts what goes through mailboxes by input and partition.
use Rattle.std.specs.Prelude.{◌≡◌, ◌<◌, ◌+◌, ◌*◌, ℕ, nat_eq, Bool, ◌&&◌, if◌then◌else◌, Some, List, [], ◌∷◌, map, filter, length, slice_index_or}
use Rattle.std.specs.List.{flat_map, list_any, Contains, slice_get, range_with_len}
use Rattle.hy_job.specs.declared.job.Wire.{Wire}
use Rattle.hy_job.specs.declared.job.Wire.TheVariants as W
use Rattle.hy_job.specs.declared.job.Edge.{Edge}
use Rattle.hy_job.specs.declared.job.Job.{Job}
use Rattle.hy_job.specs.declared.job.Stage.{Stage}
use Rattle.hy_job.specs.Sound.{SoundJob, activity, arity_of, edges_at}
use Rattle.hy_job.specs.Stages.{IsPart}
use Rattle.hy_job.specs.Runs.{ReceivesOver, SendsBy}

-- the place of the first item that passes
abbrev pub place_where : {A : Type 0} → (A → Bool) → List A → ℕ
place_where p [] = 0
place_where p (x ∷ xs) = if p x then 0 else place_where p xs + 1

-- ---- tasks

-- the activity and the partition of each task of a stage, in the order of their numbers
abbrev pub tasks_of : ℕ → Stage → List (ℕ × ℕ)
tasks_of partitions stage = flat_map (λ a. map (λ j. (a, j)) (range_with_len 0 partitions)) stage.activities

-- the activity and the partition of a task
abbrev pub task_of : ℕ → Stage → ℕ → ℕ × ℕ
task_of partitions stage k = slice_index_or (tasks_of partitions stage) k (0, 0)

-- the number of a task
abbrev pub task_at : ℕ → Stage → ℕ → ℕ → ℕ
task_at partitions stage a j = place_where (λ t. nat_eq t.0 a && nat_eq t.1 j) (tasks_of partitions stage)

-- ---- mailboxes

-- a mailbox: the edge whose wire it belongs to, the partition that receives, those that send, in order, how many signals it
-- holds, and the number of values of its rows
pub record StageBox : Type 0 where
  pub edge : Edge
  pub receiver : ℕ
  pub senders : List ℕ
  pub capacity : ℕ
  pub arity : ℕ

-- the senders of each mailbox of a receiver: one list for each mailbox, of which a merging wire has one for each sender
abbrev pub senders_of : Wire → ℕ → ℕ → List (List ℕ)
senders_of W.OneToOne partitions r = (r ∷ []) ∷ []
senders_of (W.Hash columns) partitions r = range_with_len 0 partitions ∷ []
senders_of W.Broadcast partitions r = range_with_len 0 partitions ∷ []
senders_of W.Gather partitions r = if nat_eq r 0 then range_with_len 0 partitions ∷ [] else []
senders_of (W.Merge keys) partitions r = if nat_eq r 0 then map (λ s. s ∷ []) (range_with_len 0 partitions) else []

abbrev pub box_for : Job → Edge → ℕ → List ℕ → StageBox
box_for job e r senders = record { edge = e; receiver = r; senders = senders; capacity = 2 * length senders; arity = arity_of (activity job e.from) }

abbrev pub boxes_to : Job → Edge → ℕ → List StageBox
boxes_to job e r = map (box_for job e r) (senders_of e.wire job.partitions r)

abbrev pub boxes_over : Job → Edge → List StageBox
boxes_over job e = flat_map (boxes_to job e) (range_with_len 0 job.partitions)

-- the edges between activities of the stage
abbrev pub edges_in : Job → Stage → List Edge
edges_in job stage = filter (λ e. list_any (λ a. nat_eq a e.to) stage.activities) job.edges

-- the mailboxes in the order of their numbers: by edge, receiver and sender
abbrev pub boxes_of : Job → Stage → List StageBox
boxes_of job stage = flat_map (boxes_over job) (edges_in job stage)

-- where what is taken of a mailbox comes from, by the sender's number there: the input, and the partition of the sender
abbrev pub origin : StageBox → ℕ → ℕ × ℕ
origin b number = (b.edge.input, slice_index_or b.senders number 0)

-- the mailbox is the edge's, and takes of this sender for this receiver
abbrev pub is_between : Edge → ℕ → ℕ → StageBox → Bool
is_between e r s b = nat_eq b.edge.to e.to && (nat_eq b.edge.input e.input && (nat_eq b.receiver r && list_any (λ x. nat_eq x s) b.senders))

-- the number of the mailbox into which the sender puts over an edge for a receiver
abbrev pub box_to : List StageBox → Edge → ℕ → ℕ → ℕ
box_to boxes e r s = place_where (is_between e r s) boxes

-- ---- laws

-- each number is that of one task, and each task has one number
pub record AreNumbered (partitions : ℕ) (stage : Stage) : Type 0 where
  pub there : (k : ℕ) → k < length (tasks_of partitions stage) → Contains stage.activities (task_of partitions stage k).0 × ((task_of partitions stage k).1 < partitions)
  pub back : (k : ℕ) → k < length (tasks_of partitions stage) → task_at partitions stage (task_of partitions stage k).0 (task_of partitions stage k).1 ≡ k
  pub number : (a j : ℕ) → Contains stage.activities a → j < partitions → task_at partitions stage a j < length (tasks_of partitions stage)
  pub found : (a j : ℕ) → Contains stage.activities a → j < partitions → task_of partitions stage (task_at partitions stage a j) ≡ (a, j)

abbrev pub TasksAreNumbered : Type 0
TasksAreNumbered = (job : Job) (stage : Stage) → IsPart job stage.activities → AreNumbered job.partitions stage

-- the mailbox of this number of the stage
abbrev pub IsBox : Job → Stage → ℕ → StageBox → Type 0
IsBox job stage k b = slice_get (boxes_of job stage) k ≡ Some b

-- what comes through a mailbox comes from a sender of its receiver over its edge, which is one of the stage's
pub record HasOrigins (job : Job) (stage : Stage) (b : StageBox) : Type 0 where
  pub edge : Contains job.edges b.edge
  pub ends : Contains stage.activities b.edge.to
  pub receiver : b.receiver < job.partitions
  pub within : (i : ℕ) → i < length b.senders → (origin b i).1 < job.partitions
  pub over : (i : ℕ) → i < length b.senders → ReceivesOver b.edge.wire job.partitions (origin b i).1 b.receiver
  pub sends : (i : ℕ) → i < length b.senders → SendsBy (edges_at job b.edge.to (origin b i).0) job.partitions (origin b i).1 b.receiver

abbrev pub BoxesHaveOrigins : Type 0
BoxesHaveOrigins = (job : Job) (stage : Stage) → SoundJob job → (k : ℕ) (b : StageBox) → IsBox job stage k b → HasOrigins job stage b

-- through one mailbox alone, and under one number there, comes what is of one input and one partition
abbrev pub OriginsAreOneToOne : Type 0
OriginsAreOneToOne = (job : Job) (stage : Stage) → SoundJob job → (k l : ℕ) (b c : StageBox) → IsBox job stage k b → IsBox job stage l c → (i j : ℕ) → i < length b.senders → j < length c.senders
    → b.edge.to ≡ c.edge.to → b.receiver ≡ c.receiver → origin b i ≡ origin c j → (k ≡ l) × (i ≡ j)

-- the mailbox in which what this task puts over the edge for this receiver is found
pub record IsReached (job : Job) (stage : Stage) (e : Edge) (r s : ℕ) (b : StageBox) : Type 0 where
  pub is : IsBox job stage (box_to (boxes_of job stage) e r s) b
  pub edge : b.edge ≡ e
  pub receiver : b.receiver ≡ r
  pub sender : Contains b.senders s

-- each task that sends over an edge of the stage has a mailbox there for each of its receivers
abbrev pub ReceiversHaveBoxes : Type 0
ReceiversHaveBoxes = (job : Job) (stage : Stage) → SoundJob job → (e : Edge) → Contains job.edges e → Contains stage.activities e.to → (r s : ℕ) → r < job.partitions → s < job.partitions → ReceivesOver e.wire job.partitions s r
    → (b : StageBox) × IsReached job stage e r s b

-- and what is taken of a mailbox was put there
abbrev pub BoxesAreReached : Type 0
BoxesAreReached = (job : Job) (stage : Stage) → SoundJob job → (k : ℕ) (b : StageBox) → IsBox job stage k b → (i : ℕ) → i < length b.senders → box_to (boxes_of job stage) b.edge b.receiver (origin b i).1 ≡ k
