-- What became of a task over many steps, and what its record then is.
use Rattle.std.specs.Prelude.{◌≡◌, ◌≢◌, ◌⊎◌, ◌<◌, ℕ, true, false, ◌||◌, Option, Some, None, List, [], ◌∷◌, ◌++◌}
use Rattle.std.specs.List.{Contains}
use Rattle.hy_rest.specs.Words.{Signal, Fail, Close, WriterWord, is_fail}
use Rattle.hy_job.specs.declared.job.Activity.{Activity}
use Rattle.hy_job.specs.declared.job.Job.{Job}
use Rattle.hy_job.specs.Columns.{Row}
use Rattle.hy_job.specs.Runs.{IsReceiver, IsSender, Put, Taken, TaskRun, rows_at}
use Rattle.hy_job.specs.Settled.{Completed, HasCause, Outcome, Stopped, Take, TakesFrom, TakesNoFail, TaskRecord, has_closed, is_fault, taken_rows}
use Rattle.hy_progress.specs.Ends.{MeetsParts}
use Rattle.hy_course.specs.Task.{Advances, Deed, IsFrontOf, MayComeTo, Moves, TaskOf, puts_of, takes_of}

-- ---- many steps

-- it failed in these steps: up to its failure it took this and owed a front of what it might put, of which, with the word of its
-- failure behind it, it has put a beginning
pub record Broke (job : Job) (a : Activity) (j : ℕ) (first : TaskOf) (took : List Take) (put : ℕ → List (Signal Row)) (last : TaskOf) (outcome : Outcome) : Type 0 where
  pub fails : outcome ≢ Completed
  pub before : List Take
  pub behind : List Take
  pub took_is : took ≡ before ++ behind
  pub takes_no_fail : TakesNoFail before
  pub kept : ℕ → List (Signal Row)
  pub ends : (r : ℕ) → IsReceiver job a.number j r → put r ++ last.owed r ≡ kept r ++ Fail ∷ Close ∷ []
  pub part : first.sound → (more : List Taken) → MayComeTo job a j (λ input sender. has_closed before input sender || first.closed input sender) more
      → (whole : Put) × IsFrontOf job kept whole × first.rest (taken_rows before ++ more) whole
  pub cause : HasCause a.kind outcome (first.untested ++ rows_at 0 (taken_rows before))
  pub stopped : outcome ≡ Stopped → ((t : Take) × Contains behind t × (is_fail t.signal ≡ true)) ⊎ (last.saw ≡ true)

-- by how it failed before these steps and behind them
abbrev pub Went : Job → Activity → ℕ → TaskOf → List Take → (ℕ → List (Signal Row)) → TaskOf → Option Outcome → Option Outcome → Type 0
Went job a j first took put last None None = Advances job a j first took put last
Went job a j first took put last None (Some outcome) = Broke job a j first took put last outcome
Went job a j first took put last (Some outcome) (Some outcome') = (outcome' ≡ outcome) × ((r : ℕ) → IsReceiver job a.number j r → first.owed r ≡ put r ++ last.owed r)
Went job a j first took put last (Some outcome) None = ⊥

-- from the first to the last it took and put these
pub record Ran (job : Job) (a : Activity) (j : ℕ) (first : TaskOf) (took : List Take) (put : ℕ → List (Signal Row)) (last : TaskOf) : Type 0 where
  pub went : Went job a j first took put last first.failure last.failure
  pub from : TakesFrom job a j took
  pub none : (r : ℕ) → (IsReceiver job a.number j r → ⊥) → put r ≡ []
  pub closed : (input sender : ℕ) → last.closed input sender ≡ (has_closed took input sender || first.closed input sender)
  pub raised : first.raised ≡ true → last.raised ≡ true
  pub saw : first.saw ≡ true → last.saw ≡ true

-- ---- at the beginning and at the end

-- a task to which nothing happened: whatever it may put is a run
pub record IsNewTask (job : Job) (a : Activity) (j : ℕ) (scanned handed : List Row) (t : TaskOf) : Type 0 where
  pub rest : t.sound → (took : List Taken) (put : Put) → t.rest took put → TaskRun job a j (record { rows = took; scanned = scanned; handed = handed }) put
  pub untested : t.untested ≡ []
  pub closed : (input sender : ℕ) → t.closed input sender ≡ false
  pub failure : t.failure ≡ None
  pub raised : t.raised ≡ false
  pub saw : t.saw ≡ false

abbrev pub outcome_of : Option Outcome → Outcome
outcome_of None = Completed
outcome_of (Some outcome) = outcome

-- a task that has nothing to do any more
pub record IsDoneTask (job : Job) (a : Activity) (j : ℕ) (t : TaskOf) : Type 0 where
  -- one that did not fail may put nothing any more but what it hands on, and has tested all rows
  pub rest : t.failure ≡ None → t.sound → (put : Put) × t.rest [] put × ((r : ℕ) → r < job.partitions → put.to r ≡ []) × (put.on ≡ t.hands_on)
  pub untested : t.failure ≡ None → t.untested ≡ []
  -- one that failed owes nothing and hands nothing on
  pub owed : (t.failure ≡ None → ⊥) → (r : ℕ) → IsReceiver job a.number j r → t.owed r ≡ []
  pub nothing : (t.failure ≡ None → ⊥) → t.hands_on ≡ []
  -- it took the Close of each sender, whether it failed or not
  pub closed : (input sender : ℕ) → IsSender job a j input sender → t.closed input sender ≡ true
  -- it raised the abort word exactly where it met a fault
  pub raised : t.raised ≡ is_fault (outcome_of t.failure)

-- the record of a task that took and put these, and is now done
abbrev pub record_of : List Row → List Row → List Take → (ℕ → List (Signal Row)) → TaskOf → TaskRecord
record_of scanned handed took put t = record {
  took = took;
  put = put;
  scanned = scanned;
  handed = handed;
  hands_on = t.hands_on;
  raised = t.raised;
  saw = t.saw;
  outcome = outcome_of t.failure;
}

-- ---- laws

-- a step is some steps
abbrev pub MovesRan : TaskOf → TaskOf → Type 0
MovesRan old new = (job : Job) (a : Activity) (j : ℕ) (deed : Deed) → Moves job a j old deed new → Ran job a j old (takes_of deed) (puts_of deed) new

-- none are some
abbrev pub NoneRan : TaskOf → Type 0
NoneRan t = (job : Job) (a : Activity) (j : ℕ) → (t.failure ≡ None → t.sound → (more : List Taken) → MayComeTo job a j t.closed more → (put : Put) × t.rest more put)
    → Ran job a j t [] (λ r. []) t

-- some steps, and behind them some more
abbrev pub RanThen : TaskOf → TaskOf → TaskOf → Type 0
RanThen first second third = (job : Job) (a : Activity) (j : ℕ) (took took' : List Take) (put put' : ℕ → List (Signal Row))
    → Ran job a j first took put second → Ran job a j second took' put' third → Ran job a j first (took ++ took') (λ r. put r ++ put' r) third

-- what a task took and put from its beginning to its end, where these are words, is a record that meets its own parts
abbrev pub DoneMeets : TaskOf → TaskOf → Type 0
DoneMeets first last = (job : Job) (a : Activity) (j : ℕ) (scanned handed : List Row) (took : List Take) (put : ℕ → List (Signal Row))
    → IsNewTask job a j scanned handed first → first.sound → Ran job a j first took put last → IsDoneTask job a j last
    → ((r : ℕ) → r < job.partitions → IsReceiver job a.number j r → WriterWord (put r))
    → MeetsParts job a j (record_of scanned handed took put last)

-- from its beginning to its end a task takes the Close of each sender
abbrev pub AllClosed : TaskOf → TaskOf → Type 0
AllClosed first last = (job : Job) (a : Activity) (j : ℕ) (scanned handed : List Row) (took : List Take) (put : ℕ → List (Signal Row))
    → IsNewTask job a j scanned handed first → Ran job a j first took put last → IsDoneTask job a j last
    → (input sender : ℕ) → IsSender job a j input sender → has_closed took input sender ≡ true
