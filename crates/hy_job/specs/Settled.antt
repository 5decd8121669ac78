-- What the tasks of a job took, put and handed on, and when all of it fits together.
use Rattle.std.specs.Prelude.{◌≡◌, ◌≢◌, ◌⊎◌, ◌<◌, ℕ, nat_eq, Bool, true, false, ◌&&◌, List, [], ◌∷◌, ◌++◌, map, filter}
use Rattle.std.specs.List.{flat_map, list_any, All, AllByRecursion, Contains}
use Rattle.std.specs.List.Sorted.{IsPermutation}
use Rattle.hy_rest.specs.Words.{Signal, signal_rows, put_rows, is_fail, is_close, Fail, Close, WriterWord}
use Rattle.hy_job.specs.declared.job.Kind.{Kind}
use Rattle.hy_job.specs.declared.job.Kind.TheVariants as K
use Rattle.hy_job.specs.declared.job.Activity.{Activity}
use Rattle.hy_job.specs.declared.job.Edge.{Edge}
use Rattle.hy_job.specs.declared.job.Block.{Block}
use Rattle.hy_job.specs.declared.job.Job.{Job}
use Rattle.hy_job.specs.declared.job.Stage.{Stage}
use Rattle.hy_job.specs.Columns.{Row, holds}
use Rattle.hy_job.specs.Sound.{SoundJob}
use Rattle.hy_job.specs.Stages.{AreNext, activities_in}
use Rattle.hy_job.specs.Exchange.{AreSent}
use Rattle.hy_job.specs.Runs.{Taken, Took, TaskRun, TaskPart, IsReceiver, IsSender, rows_at}

-- ---- records

-- how a task ended
pub data Outcome : Type 0 where
  Completed : Outcome
  Stopped : Outcome
  -- a check of this name met a row that is not TRUE
  Check : List ℕ → Outcome
  Store : Outcome
  NoMemory : Outcome

-- a signal that was taken: the input at which it came, and the partition of the task that sent it
pub record Take : Type 0 where
  pub input : ℕ
  pub sender : ℕ
  pub signal : Signal Row

-- what a task did from its beginning to its end
pub record TaskRecord : Type 0 where
  -- the signals that it took, in the order in which they came
  pub took : List Take
  -- the signals that it put for each receiving partition
  pub put : ℕ → List (Signal Row)
  -- the rows that a scan was given
  pub scanned : List Row
  pub handed : List Row
  pub hands_on : List Row
  pub raised : Bool
  pub saw : Bool
  pub outcome : Outcome

-- what was taken of one sender at an input
abbrev pub taken_of : ℕ → ℕ → List Take → List (Signal Row)
taken_of input sender took = map (λ t. t.signal) (filter (λ t. nat_eq t.input input && nat_eq t.sender sender) took)

abbrev pub taken_rows : List Take → List Taken
taken_rows = flat_map (λ t. map (λ row. record { input = t.input; sender = t.sender; row = row }) (signal_rows t.signal))

-- whether the sender's Close at the input is among what was taken
abbrev pub has_closed : List Take → ℕ → ℕ → Bool
has_closed took input sender = list_any (λ t. is_close t.signal && (nat_eq t.input input && nat_eq t.sender sender)) took

abbrev pub TakesNoFail : List Take → Type 0
TakesNoFail = All (λ t. is_fail t.signal ≡ false)

-- what a task was given, up to this of what it took
abbrev pub given : TaskRecord → List Take → Took
given r took = record { rows = taken_rows took; scanned = r.scanned; handed = r.handed }

-- ---- completed and failed tasks

-- where it is a check, its condition is TRUE on all these rows
abbrev pub IsPassed : Kind → List Row → Type 0
IsPassed (K.Check name c) rows = All (λ row. holds c row ≡ true) rows
IsPassed _ rows = Unit {0}

-- it is a check of this name, and its condition is not TRUE on one of these rows
abbrev pub IsFaulty : Kind → List ℕ → List Row → Type 0
IsFaulty (K.Check own c) name rows = (name ≡ own) × ((row : Row) × Contains rows row × (holds c row ≡ false))
IsFaulty _ name rows = ⊥

-- a task that completed did a whole run, without a Fail
pub record IsCompleted (job : Job) (a : Activity) (j : ℕ) (r : TaskRecord) : Type 0 where
  pub run : TaskRun job a j (given r r.took) (record { to = λ to. put_rows (r.put to); on = r.hands_on })
  pub takes_no_fail : TakesNoFail r.took
  pub puts_no_fail : (to : ℕ) → IsReceiver job a.number j to → All (λ s. is_fail s ≡ false) (r.put to)
  pub passed : IsPassed a.kind (rows_at 0 (taken_rows r.took))

-- the fault of a check is one of the rows that it took
abbrev pub HasCause : Kind → Outcome → List Row → Type 0
HasCause kind (Check name) rows = IsFaulty kind name rows
HasCause kind _ rows = Unit {0}

-- it did a part of a run, and then told each receiver that it failed, where it puts these whole words
pub record FailsWith (job : Job) (a : Activity) (j : ℕ) (r : TaskRecord) (words : ℕ → List (Signal Row)) : Type 0 where
  -- what it took before its failure, and behind it
  pub before : List Take
  pub behind : List Take
  pub took : r.took ≡ before ++ behind
  pub takes_no_fail : TakesNoFail before
  -- what it put before its failure
  pub put : ℕ → List (Signal Row)
  pub ends : (to : ℕ) → IsReceiver job a.number j to → words to ≡ put to ++ Fail ∷ Close ∷ []
  pub part : TaskPart job a j (has_closed before) (given r before) (record { to = λ to. put_rows (put to); on = r.hands_on })
  pub cause : HasCause a.kind r.outcome (rows_at 0 (taken_rows before))

-- a task that did not complete failed
abbrev pub IsFailed : Job → Activity → ℕ → TaskRecord → Type 0
IsFailed job a j r = FailsWith job a j r r.put

-- ---- tasks that have not ended

-- a failed task as far as it has come, which still owes this to each receiver
abbrev pub IsFailedSoFar : Job → Activity → ℕ → TaskRecord → (ℕ → List (Signal Row)) → Type 0
IsFailedSoFar job a j r owed = FailsWith job a j r (λ to. r.put to ++ owed to)

-- one that has not failed, as far as it has come, which has still to work on these of the rows that it took
pub record IsLiveSoFar (job : Job) (a : Activity) (j : ℕ) (r : TaskRecord) (left : List Row) : Type 0 where
  pub takes_no_fail : TakesNoFail r.took
  pub puts_no_fail : (to : ℕ) → IsReceiver job a.number j to → All (λ s. is_fail s ≡ false) (r.put to)
  pub worked : List Row
  pub all : IsPermutation (rows_at 0 (taken_rows r.took)) (worked ++ left)
  pub passed : IsPassed a.kind worked

-- who owes nothing any more has failed
abbrev pub FailsAtLast : Type 0
FailsAtLast = (job : Job) (a : Activity) (j : ℕ) (r : TaskRecord) (owed : ℕ → List (Signal Row)) → ((to : ℕ) → IsReceiver job a.number j to → owed to ≡ []) → IsFailedSoFar job a j r owed → IsFailed job a j r

-- who has nothing left to work on passed all that it took
abbrev pub PassesAtLast : Type 0
PassesAtLast = (job : Job) (a : Activity) (j : ℕ) (r : TaskRecord) → IsLiveSoFar job a j r [] → IsPassed a.kind (rows_at 0 (taken_rows r.took))

-- ---- the records of a job

-- by activity and partition
abbrev pub Records : Type 0
Records = ℕ → ℕ → TaskRecord

-- a claim of each task of these stages
abbrev pub EachTask : Job → List Stage → (Activity → ℕ → Type 0) → Type 0
EachTask job stages P = (a : Activity) (j : ℕ) → Contains job.activities a → Contains (activities_in stages) a.number → j < job.partitions → P a j

-- what a task puts is a word for each receiver, and nothing for another partition
pub record HasWords (job : Job) (a j : ℕ) (r : TaskRecord) : Type 0 where
  pub words : (to : ℕ) → to < job.partitions → IsReceiver job a j to → WriterWord (r.put to)
  pub none : (to : ℕ) → to < job.partitions → (IsReceiver job a j to → ⊥) → r.put to ≡ []

-- the outcomes for which a task raises the abort word
abbrev pub is_fault : Outcome → Bool
is_fault Completed = false
is_fault Stopped = false
is_fault (Check name) = true
is_fault Store = true
is_fault NoMemory = true

-- a task stops where it took a Fail or saw a raised word
abbrev pub StopsBy : Outcome → TaskRecord → Type 0
StopsBy Stopped r = ((t : Take) × Contains r.took t × (is_fail t.signal ≡ true)) ⊎ (r.saw ≡ true)
StopsBy _ r = Unit {0}

-- a task of the activity's stage raised the word
abbrev pub IsRaisedBeside : Job → List Stage → Records → ℕ → Type 0
IsRaisedBeside job stages records a =
    (s : Stage) × (b j : ℕ) × Contains stages s × Contains s.activities a × Contains s.activities b × (j < job.partitions) × ((records b j).raised ≡ true)

-- it raised the word exactly where it faulted itself, and stopped or saw a raised word only where another task had a cause
pub record IsCaused (job : Job) (stages : List Stage) (records : Records) (a j : ℕ) : Type 0 where
  pub raised : (records a j).raised ≡ is_fault (records a j).outcome
  pub stopped : StopsBy (records a j).outcome (records a j)
  pub saw : (records a j).saw ≡ true → IsRaisedBeside job stages records a

-- what was taken is of the inputs of the activity, and of tasks that send to this one
abbrev pub TakesFrom : Job → Activity → ℕ → List Take → Type 0
TakesFrom job a j = AllByRecursion (λ t. IsSender job a j t.input t.sender)

-- the records of the tasks of these stages, which are those of the job that were run, fit together
pub record Settled (job : Job) (stages : List Stage) (records : Records) : Type 0 where
  pub completed : EachTask job stages (λ a j. (records a.number j).outcome ≡ Completed → IsCompleted job a j (records a.number j))
  pub failed : EachTask job stages (λ a j. (records a.number j).outcome ≢ Completed → IsFailed job a j (records a.number j))
  pub words : EachTask job stages (λ a j. HasWords job a.number j (records a.number j))
  pub taken : EachTask job stages (λ a j. TakesFrom job a j (records a.number j).took)
  -- what was taken of each sender is what that sender put
  pub delivered : (e : Edge) (s r : ℕ) → Contains job.edges e → Contains (activities_in stages) e.to → s < job.partitions → r < job.partitions
      → taken_of e.input s (records e.to r).took ≡ (records e.from s).put r
  -- what a task hands on is what the next task of its partition is handed
  pub handed : (b : Block) (j : ℕ) → Contains job.blocks b → Contains (activities_in stages) b.after → j < job.partitions
      → (records b.after j).handed ≡ (records b.before j).hands_on
  pub causes : EachTask job stages (λ a j. IsCaused job stages records a.number j)

-- ---- failures

-- a task of a stage with this activity faulted
abbrev pub IsFaultBeside : Job → List Stage → Records → ℕ → Type 0
IsFaultBeside job stages records a =
    (s : Stage) × (b j : ℕ) × Contains stages s × Contains s.activities a × Contains s.activities b × (j < job.partitions) × (is_fault (records b j).outcome ≡ true)

-- where a task stopped, another one of its stage faulted
abbrev pub StopsByFaults : Type 0
StopsByFaults = (job : Job) (stages : List Stage) (records : Records) → SoundJob job → AreNext job [] stages → Settled job stages records
    → (a j : ℕ) → Contains (activities_in stages) a → j < job.partitions → (records a j).outcome ≡ Stopped → IsFaultBeside job stages records a

-- ---- wires

-- a run of this record made these rows
abbrev pub MadeBy : Job → Activity → ℕ → TaskRecord → List Row → Type 0
MadeBy job a j r rows = (run : TaskRun job a j (given r r.took) (record { to = λ to. put_rows (r.put to); on = r.hands_on })) × (run.made ≡ rows)

-- what the tasks at one end of an edge made is sent to those at the other end, which take it
abbrev pub SettledIsSent : Type 0
SettledIsSent = (job : Job) (stages : List Stage) (records : Records) → SoundJob job → Settled job stages records → (e : Edge) → Contains job.edges e → Contains (activities_in stages) e.to
    → (a : Activity) → Contains job.activities a → a.number ≡ e.from → (made : ℕ → List Row) → ((s : ℕ) → s < job.partitions → MadeBy job a s (records e.from s) (made s))
    → AreSent e.wire job.partitions e.input made (λ r. taken_rows (records e.to r).took)
