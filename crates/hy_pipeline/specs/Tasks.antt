-- A task as its record sees it, by its parts, and what its steps come to.
use Rattle.std.specs.Prelude.{◌≡◌, ◌≢◌, ◌<◌, ℕ, Bool, true, false, Option, Some, None, List, [], ◌∷◌, ◌++◌}
use Rattle.std.specs.List.Sorted.{IsPermutation}
use Rattle.hy_frame.specs.declared.writer.WriterState.{WriterState}
use Rattle.hy_frame.specs.declared.writer.WriterState.TheVariants.{Initial, Opened, Failed, Closed}
use Rattle.hy_rest.specs.Rest.{Alive}
use Rattle.hy_rest.specs.Words as S
use Rattle.hy_rest.specs.Words.{Signal, put_rows}
use Rattle.hy_job.specs.declared.job.Activity.{Activity}
use Rattle.hy_job.specs.declared.job.Job.{Job}
use Rattle.hy_job.specs.Runs.{IsReceiver, IsSender, Put, Taken as TakenRow, rows_at}
use Rattle.hy_job.specs.Settled.{HasCause, IsPassed, Outcome, Stopped, Take, is_fault, taken_rows}
use Rattle.hy_mail.specs.declared.parcel.Parcel.{Parcel}
use Rattle.hy_mail.specs.declared.parcel.Parcel.TheVariants as P
use Rattle.hy_driver.specs.Rows.{Fed, Row}
use Rattle.hy_driver.specs.Seen.{Seen}
use Rattle.hy_driver.specs.Steps.{IsOver, MayCome}
use Rattle.hy_driver.specs.declared.phase.Phase.TheVariants.{Ended}
use Rattle.hy_output.specs.declared.way.Way.{Way}
use Rattle.hy_output.specs.Ways.{places, state_of, waiting}
use Rattle.hy_input.specs.Inputs.{Closes, closed_at}
use Rattle.hy_course.specs.Task.{IsCheck, Looks as LooksAtWord, MayComeTo, Moves, Puts, Raises, TaskOf, Takes, Work}
use Rattle.hy_course.specs.Parts.{PartsOf, PartsStep, RestOf}
use Rattle.hy_pipeline.specs.Pipeline.{AreApart, PipelineOf, nothing, parts_of, signal_of, take_of, waits_for}
use Rattle.hy_course.specs.Course.{IsDoneTask, outcome_of}
use Rattle.hy_pipeline.specs.Laws.{Comes, GoesOut, IsEnded, IsLiving, OwesNothing}

-- what holds of an operator between the steps of its task, and makes its `rest` true of it. Of one with a store it says that the store tells
pub record Tells (s : Seen) : Type 0 where
  pub sound : s.sound
  -- for all that may come there is something that it may put
  pub alive : Alive (MayCome s) s.rest
  pub over : s.phase ≡ Ended → IsOver s

pub record TaskSeen : Type 1 where
  pub pipeline : PipelineOf
  -- of a check: the rows that came and are still to be tested
  pub untested : List Row
  -- how it failed, where it did
  pub failure : Option Outcome
  pub raised : Bool
  pub saw : Bool
  pub hands_on : List Row

abbrev pub closed_of : TaskSeen → ℕ → ℕ → Bool
closed_of t k p = closed_at (t.pipeline.input k) p

-- what a failed task still owes behind what waits, where its word has come so far
abbrev pub lacks : WriterState → List (Signal Row)
lacks Initial = S.Open ∷ S.Fail ∷ S.Close ∷ []
lacks Opened = S.Fail ∷ S.Close ∷ []
lacks Failed = S.Close ∷ []
lacks Closed = []

abbrev pub owes : (ℕ → ℕ) → Way → ℕ → List (Signal Row)
owes at way r = waits_for at way r ++ lacks (state_of way)

-- as its record sees it
abbrev pub task_of : Job → Activity → (ℕ → ℕ) → TaskSeen → TaskOf
task_of job a at t = record {
  sound = Tells t.pipeline.operator;
  rest = RestOf job a (parts_of at t.pipeline);
  untested = t.untested;
  closed = closed_of t;
  failure = t.failure;
  owed = owes at t.pipeline.output.way;
  raised = t.raised;
  saw = t.saw;
  hands_on = t.hands_on;
}

-- ---- what steps have in common

-- however the taking goes on, there is something that these parts may put
abbrev pub MayPut : Job → Activity → ℕ → (ℕ → ℕ → Bool) → PartsOf → Type 0
MayPut job a j closed p = (more : List TakenRow) → MayComeTo job a j closed more → (put : Put) × RestOf job a p more put

-- of the rows that a check had to test and those that came, the others passed
abbrev pub Tests : Activity → TaskSeen → List Take → TaskSeen → Type 0
Tests a old took new = IsCheck a.kind → (worked : List Row) × IsPermutation (old.untested ++ rows_at 0 (taken_rows took)) (worked ++ new.untested) × IsPassed a.kind worked

pub record StaysAtWord (old new : TaskSeen) : Type 0 where
  pub raised : new.raised ≡ old.raised
  pub saw : new.saw ≡ old.saw

abbrev pub ClosedStays : TaskSeen → TaskSeen → Type 0
ClosedStays old new = (k p : ℕ) → closed_of new k p ≡ closed_of old k p

-- it has not failed, before and behind a step by which its parts took and put these
pub record StepsOn (job : Job) (a : Activity) (j : ℕ) (at : ℕ → ℕ) (old : TaskSeen) (took : List Take) (sent : ℕ → List (Signal Row)) (new : TaskSeen) : Type 0 where
  pub was : old.failure ≡ None
  pub is : new.failure ≡ None
  pub sound : Tells old.pipeline.operator → Tells new.pipeline.operator
  pub fed : List Fed
  pub gave : List Row
  pub written : List Row
  pub steps : Tells old.pipeline.operator → PartsStep job a (parts_of at old.pipeline) took fed gave written sent (parts_of at new.pipeline)
  pub lives : Tells old.pipeline.operator → MayPut job a j (closed_of new) (parts_of at new.pipeline)
  pub tests : Tests a old took new

-- ---- local work

pub record WorksOn (job : Job) (a : Activity) (j : ℕ) (at : ℕ → ℕ) (old new : TaskSeen) : Type 0 where
  pub goes : StepsOn job a j at old [] nothing new
  pub closed : ClosedStays old new
  pub word : StaysAtWord old new

abbrev pub WorkMoves : TaskSeen → TaskSeen → Type 0
WorkMoves old new = (job : Job) (a : Activity) (j : ℕ) (at : ℕ → ℕ) → WorksOn job a j at old new → Moves job a j (task_of job a at old) Work (task_of job a at new)

-- ---- what comes

-- the Close of this partition at this input, and no other, is counted behind a Close
abbrev pub ClosesBy : ℕ → ℕ → Parcel → PipelineOf → PipelineOf → Type 0
ClosesBy k p P.Close old new = Closes p (old.input k) (new.input k)
ClosesBy k p _ old new = (q : ℕ) → closed_at (new.input k) q ≡ closed_at (old.input k) q

-- it took a parcel, which is no Fail, and has not failed
pub record TakesIn (job : Job) (a : Activity) (j : ℕ) (at : ℕ → ℕ) (k p : ℕ) (parcel : Parcel) (old new : TaskSeen) : Type 0 where
  pub sender : IsSender job a j k p
  pub no_fail : parcel ≢ P.Fail
  pub comes : Comes k p parcel old.pipeline new.pipeline
  pub was : old.failure ≡ None
  pub is : new.failure ≡ None
  pub sound : Tells old.pipeline.operator → Tells new.pipeline.operator
  pub lives : Tells old.pipeline.operator → MayPut job a j (closed_of new) (parts_of at new.pipeline)
  pub tests : Tests a old (take_of k p parcel) new
  pub word : StaysAtWord old new

abbrev pub TakeMoves : TaskSeen → TaskSeen → Type 0
TakeMoves old new = (job : Job) (a : Activity) (j : ℕ) (at : ℕ → ℕ) (k p : ℕ) (parcel : Parcel) → TakesIn job a j at k p parcel old new
    → Moves job a j (task_of job a at old) (Takes k p (signal_of parcel)) (task_of job a at new)

-- it took a parcel after it had failed
pub record TakesFailed (job : Job) (a : Activity) (j k p : ℕ) (parcel : Parcel) (old new : TaskSeen) : Type 0 where
  pub sender : IsSender job a j k p
  pub others : (i : ℕ) → i ≢ k → new.pipeline.input i ≡ old.pipeline.input i
  pub closes : ClosesBy k p parcel old.pipeline new.pipeline
  pub way : new.pipeline.output.way ≡ old.pipeline.output.way
  pub outcome : Outcome
  pub was : old.failure ≡ Some outcome
  pub is : new.failure ≡ Some outcome
  pub word : StaysAtWord old new

abbrev pub FailedTakeMoves : TaskSeen → TaskSeen → Type 0
FailedTakeMoves old new = (job : Job) (a : Activity) (j : ℕ) (at : ℕ → ℕ) (k p : ℕ) (parcel : Parcel) → TakesFailed job a j k p parcel old new
    → Moves job a j (task_of job a at old) (Takes k p (signal_of parcel)) (task_of job a at new)

-- ---- what goes out

-- it put a parcel that waited in a place; until it fails that is a step of its parts, and no Fail
pub record PutsOut (job : Job) (a : Activity) (j : ℕ) (at : ℕ → ℕ) (k : ℕ) (parcel : Parcel) (old new : TaskSeen) : Type 0 where
  pub receiver : IsReceiver job a.number j (at k)
  pub within : at k < job.partitions
  pub apart : AreApart at (places old.pipeline.output.way)
  pub out : GoesOut k parcel old.pipeline new.pipeline
  pub outcome : new.failure ≡ old.failure
  pub no_fail : old.failure ≡ None → parcel ≢ P.Fail
  pub sound : Tells old.pipeline.operator → Tells new.pipeline.operator
  pub lives : old.failure ≡ None → Tells old.pipeline.operator → MayPut job a j (closed_of new) (parts_of at new.pipeline)
  pub untested : new.untested ≡ old.untested
  pub word : StaysAtWord old new

abbrev pub PutMoves : TaskSeen → TaskSeen → Type 0
PutMoves old new = (job : Job) (a : Activity) (j : ℕ) (at : ℕ → ℕ) (k : ℕ) (parcel : Parcel) → PutsOut job a j at k parcel old new
    → Moves job a j (task_of job a at old) (Puts (at k) (signal_of parcel)) (task_of job a at new)

-- ---- failures

-- what waits behind it is a front of what its last parts may put, to which a step of its parts led
pub record BreaksOff (job : Job) (a : Activity) (j : ℕ) (at : ℕ → ℕ) (old : TaskSeen) (last : PartsOf) (outcome : Outcome) (new : TaskSeen) : Type 0 where
  pub was : old.failure ≡ None
  pub is : new.failure ≡ Some outcome
  pub fed : List Fed
  pub gave : List Row
  pub written : List Row
  pub steps : Tells old.pipeline.operator → PartsStep job a (parts_of at old.pipeline) [] fed gave written nothing last
  pub lives : Tells old.pipeline.operator → MayPut job a j (closed_of old) last
  pub front : Tells old.pipeline.operator → (r : ℕ) → r < job.partitions → (given put : List Row) → last.offers r given put
      → (rest : List Row) × (put ≡ put_rows (waits_for at new.pipeline.output.way r) ++ rest)
  -- it is open: word of its failure and its end are still to come
  pub open_still : state_of new.pipeline.output.way ≡ Opened
  pub cause : HasCause a.kind outcome old.untested

-- in its own work, by a fault
pub record FaultsInWork (job : Job) (a : Activity) (j : ℕ) (at : ℕ → ℕ) (outcome : Outcome) (old : TaskSeen) (last : PartsOf) (new : TaskSeen) : Type 0 where
  pub fault : is_fault outcome ≡ true
  pub breaks : BreaksOff job a j at old last outcome new
  pub closed : ClosedStays old new
  pub word : StaysAtWord old new

abbrev pub FaultMoves : TaskSeen → PartsOf → TaskSeen → Type 0
FaultMoves old last new = (job : Job) (a : Activity) (j : ℕ) (at : ℕ → ℕ) (outcome : Outcome) → FaultsInWork job a j at outcome old last new → Moves job a j (task_of job a at old) Work (task_of job a at new)

-- by a Fail that it took
pub record StopsByFail (job : Job) (a : Activity) (j : ℕ) (at : ℕ → ℕ) (k p : ℕ) (old : TaskSeen) (last : PartsOf) (new : TaskSeen) : Type 0 where
  pub sender : IsSender job a j k p
  pub breaks : BreaksOff job a j at old last Stopped new
  pub closed : ClosedStays old new
  pub word : StaysAtWord old new

abbrev pub FailMoves : TaskSeen → PartsOf → TaskSeen → Type 0
FailMoves old last new = (job : Job) (a : Activity) (j : ℕ) (at : ℕ → ℕ) (k p : ℕ) → StopsByFail job a j at k p old last new
    → Moves job a j (task_of job a at old) (Takes k p S.Fail) (task_of job a at new)

-- by a raised word that it saw
pub record StopsBySight (job : Job) (a : Activity) (j : ℕ) (at : ℕ → ℕ) (old : TaskSeen) (last : PartsOf) (new : TaskSeen) : Type 0 where
  pub breaks : BreaksOff job a j at old last Stopped new
  pub closed : ClosedStays old new
  pub raised : new.raised ≡ old.raised
  pub saw : new.saw ≡ true

abbrev pub SightMoves : TaskSeen → PartsOf → TaskSeen → Type 0
SightMoves old last new = (job : Job) (a : Activity) (j : ℕ) (at : ℕ → ℕ) → StopsBySight job a j at old last new → Moves job a j (task_of job a at old) (LooksAtWord true) (task_of job a at new)

-- ---- the abort word

-- a look at a word that was not raised changes nothing, nor does a raise but that it raised
abbrev pub LookMoves : TaskSeen → Type 0
LookMoves t = (job : Job) (a : Activity) (j : ℕ) (at : ℕ → ℕ) → (t.failure ≡ None → Tells t.pipeline.operator → MayPut job a j (closed_of t) (parts_of at t.pipeline))
    → Moves job a j (task_of job a at t) (LooksAtWord false) (task_of job a at t)

abbrev pub RaiseMoves : TaskSeen → Type 0
RaiseMoves t = (job : Job) (a : Activity) (j : ℕ) (at : ℕ → ℕ) → (t.failure ≡ None → ⊥) → Moves job a j (task_of job a at t) Raises (task_of job a at (record t { raised = true }))

-- ---- something to put, and the end

abbrev pub LivingMayPut : PipelineOf → Type 0
LivingMayPut p = (job : Job) (a : Activity) (j : ℕ) (closed : ℕ → ℕ → Bool) (ended : ℕ → Bool) (at : ℕ → ℕ) → AreApart at (places p.output.way) → IsLiving job a j closed ended p
    → MayPut job a j closed (parts_of at p)

-- where each sender has closed nothing comes any more
abbrev pub AllSendersClosed : Job → Activity → ℕ → (ℕ → ℕ → Bool) → Type 0
AllSendersClosed job a j closed = (k p : ℕ) → IsSender job a j k p → closed k p ≡ true

abbrev pub EndedMayPut : PipelineOf → Type 0
EndedMayPut p = (job : Job) (a : Activity) (j : ℕ) (closed : ℕ → ℕ → Bool) (at : ℕ → ℕ) (left on : List Row) → AreApart at (places p.output.way) → AllSendersClosed job a j closed → IsEnded a.kind left on p
    → MayPut job a j closed (parts_of at p)

-- its output is closed and nothing waits, each sender has closed; where it did not fail its parts have ended
pub record IsAtItsEnd (job : Job) (a : Activity) (j : ℕ) (at : ℕ → ℕ) (t : TaskSeen) : Type 0 where
  pub apart : AreApart at (places t.pipeline.output.way)
  pub left : List Row
  pub ended : t.failure ≡ None → Tells t.pipeline.operator → IsEnded a.kind left t.hands_on t.pipeline
  pub owes_nothing : t.failure ≡ None → OwesNothing t.pipeline.output.way
  pub untested : t.failure ≡ None → t.untested ≡ []
  pub closed_word : state_of t.pipeline.output.way ≡ Closed
  pub idle : (k : ℕ) → k < places t.pipeline.output.way → waiting t.pipeline.output.way k ≡ []
  pub nothing_on : (t.failure ≡ None → ⊥) → t.hands_on ≡ []
  pub senders : AllSendersClosed job a j (closed_of t)
  pub raised : t.raised ≡ is_fault (outcome_of t.failure)

abbrev pub EndIsDone : TaskSeen → Type 0
EndIsDone t = (job : Job) (a : Activity) (j : ℕ) (at : ℕ → ℕ) → IsAtItsEnd job a j at t → IsDoneTask job a j (task_of job a at t)
