-- What the calls that a step of a task makes come to.
use Rattle.std.specs.Prelude.{◌≡◌, ◌≢◌, ◌<◌, ℕ, true, false, Some, None, List, [], ◌∷◌}
use Rattle.hy_frame.specs.declared.writer.WriterState.{WriterState}
use Rattle.hy_frame.specs.declared.writer.WriterState.TheVariants.{Initial, Opened, Failed, Closed}
use Rattle.hy_rest.specs.Rest.{Alive, Continues}
use Rattle.hy_job.specs.declared.job.Activity.{Activity}
use Rattle.hy_job.specs.declared.job.Job.{Job}
use Rattle.hy_job.specs.Settled as S
use Rattle.hy_job.specs.Settled.{HasCause, Outcome, is_fault}
use Rattle.hy_job.specs.Sound.{inputs}
use Rattle.hy_mail.specs.declared.parcel.Parcel.{Parcel}
use Rattle.hy_mail.specs.declared.parcel.Parcel.TheVariants as P
use Rattle.hy_store.specs.declared.fault.OpFault.{OpFault}
use Rattle.hy_store.specs.declared.fault.OpFault.TheVariants as F
use Rattle.hy_driver.specs.Rows.{Row, values_of}
use Rattle.hy_driver.specs.Seen.{Seen}
use Rattle.hy_driver.specs.Steps.{IsOver, MayCome, TellsFault, ended_with}
use Rattle.hy_driver.specs.declared.phase.Phase.TheVariants as Ph
use Rattle.hy_output.specs.Outputs.{Spoils}
use Rattle.hy_output.specs.Ways.{AreAsFar, Fails, HasNoFail, Posts, Stays as WayStays, held_by, is_idle, state_of}
use Rattle.hy_output.specs.declared.way.Way.{Way}
use Rattle.hy_input.specs.Inputs.{Gives, HasEnded, IsSent, Rests, Stays, closed_at, given}
use Rattle.hy_course.specs.Course.{IsDoneTask, IsNewTask}
use Rattle.hy_course.specs.Task.{Looks, Puts, Raises, Takes, Work}
use Rattle.hy_pipeline.specs.Pipeline.{PipelineOf, signal_of}
use Rattle.hy_pipeline.specs.Laws.{Comes, EndsInput, FeedsRow, Finishes, GoesOut, InputsStay, IsNewPipeline, Opens, OthersStay, TurnsOnce}
use Rattle.hy_pipeline.specs.Tasks.{ClosesBy, Tells, task_of}
use Rattle.hy_pipeline.specs.Tests.{untested_of}
use Rattle.hy_task.specs.Standing.{AreWide, Does, IsQuiet, IsThrough, Stands, WorkOf, task_seen}

-- ---- what steps have in common

-- its failure is what it was, and what it knows of the abort word
pub record Knows (old new : WorkOf) : Type 0 where
  pub failure : new.failure ≡ old.failure
  pub raised : new.raised ≡ old.raised
  pub owes_raise : new.owes_raise ≡ old.owes_raise
  pub saw : new.saw ≡ old.saw

abbrev pub EndsStay : Seen → Seen → Type 0
EndsStay old new = (k : ℕ) → new.ended k ≡ old.ended k

-- the operator is what it was
pub record OperatorStays (old new : Seen) : Type 0 where
  pub tells : Tells old → Tells new
  pub works : Continues old.rest [] [] new.rest
  pub ends : EndsStay old new
  pub phase : new.phase ≡ old.phase
  pub untested : new.untested ≡ old.untested
  pub hands_on : new.hands_on ≡ old.hands_on
  pub fixed : new.fixed ≡ old.fixed

-- the senders of each input are what they were, and the same of them have closed
abbrev pub InputsLast : PipelineOf → PipelineOf → Type 0
InputsLast old new = (k : ℕ) → Stays (old.input k) (new.input k) × ((p : ℕ) → closed_at (new.input k) p ≡ closed_at (old.input k) p)

-- how far the word has come at the receivers' mailboxes is known
abbrev pub IsHeard : Way → Type 0
IsHeard way = (word : ℕ → WriterState) × AreAsFar word way

-- a step of a task that has not failed, by which it doesn't
pub record GoesOn (a : Activity) (old new : WorkOf) : Type 0 where
  pub was : old.failure ≡ None
  pub knows : Knows old new
  pub fixed : new.pipeline.operator.fixed ≡ old.pipeline.operator.fixed
  pub going : new.pipeline.operator.phase ≢ Ph.GivenUp
  pub wide : AreWide a new.pipeline

-- a step by which it fails
pub record BreaksDown (outcome : Outcome) (old new : WorkOf) : Type 0 where
  pub was : old.failure ≡ None
  pub is : new.failure ≡ Some outcome
  pub raised : new.raised ≡ old.raised
  -- a fault is to be raised
  pub owes_raise : new.owes_raise ≡ is_fault outcome
  pub opened : state_of old.pipeline.output.way ≡ Opened
  pub inputs : InputsLast old.pipeline new.pipeline
  pub fixed : new.pipeline.operator.fixed ≡ old.pipeline.operator.fixed

-- a step of a task that has failed
pub record GoesOnFailed (old new : WorkOf) : Type 0 where
  pub was : old.failure ≡ None → ⊥
  pub knows : Knows old new
  pub fixed : new.pipeline.operator.fixed ≡ old.pipeline.operator.fixed

-- ---- local work

-- its output was opened
pub record OpensOutput (a : Activity) (old new : WorkOf) : Type 0 where
  pub on : GoesOn a old new
  pub opens : Opens old.pipeline new.pipeline
  pub operator : OperatorStays old.pipeline.operator new.pipeline.operator
  pub was : state_of old.pipeline.output.way ≡ Initial
  pub is : state_of new.pipeline.output.way ≡ Opened
  pub heard : IsHeard old.pipeline.output.way

abbrev pub OpenGoes : WorkOf → WorkOf → Type 0
OpenGoes old new = (job : Job) (a : Activity) (j : ℕ) (at : ℕ → ℕ) → Stands job a j at old → OpensOutput a old new → Does job a j at old Work new

-- the operator was fed the row that an input went on to
pub record Feeds (a : Activity) (k : ℕ) (row : Row) (old new : WorkOf) : Type 0 where
  pub on : GoesOn a old new
  pub known : k < inputs a.kind
  pub to_come : old.pipeline.operator.ended k ≡ false
  pub feeds : FeedsRow k row old.pipeline new.pipeline
  pub ends : EndsStay old.pipeline.operator new.pipeline.operator
  pub busy : new.pipeline.operator.phase ≢ Ph.Ended
  pub opened : state_of old.pipeline.output.way ≡ Opened

abbrev pub FeedGoes : WorkOf → WorkOf → Type 0
FeedGoes old new = (job : Job) (a : Activity) (j : ℕ) (at : ℕ → ℕ) (k : ℕ) (row : Row) → Stands job a j at old → Feeds a k row old new → Does job a j at old Work new

-- an input was over, and the operator was told
pub record Ends (a : Activity) (k : ℕ) (old new : WorkOf) : Type 0 where
  pub on : GoesOn a old new
  pub known : k < inputs a.kind
  pub to_come : old.pipeline.operator.ended k ≡ false
  pub ends_input : EndsInput k old.pipeline new.pipeline
  pub ends : (i : ℕ) → new.pipeline.operator.ended i ≡ ended_with old.pipeline.operator.ended k i
  pub busy : new.pipeline.operator.phase ≢ Ph.Ended
  pub opened : state_of old.pipeline.output.way ≡ Opened

abbrev pub EndGoes : WorkOf → WorkOf → Type 0
EndGoes old new = (job : Job) (a : Activity) (j : ℕ) (at : ℕ → ℕ) (k : ℕ) → Stands job a j at old → Ends a k old new → Does job a j at old Work new

-- the operator had a turn, and what it gave was packed
pub record Turns (a : Activity) (rows : List Row) (old new : WorkOf) : Type 0 where
  pub on : GoesOn a old new
  pub turns : TurnsOnce rows old.pipeline new.pipeline
  pub ends : EndsStay old.pipeline.operator new.pipeline.operator
  pub through : new.pipeline.operator.phase ≡ Ph.Ended → IsThrough new.pipeline.operator
  pub over : old.pipeline.operator.sound → new.pipeline.operator.phase ≡ Ph.Ended → IsOver new.pipeline.operator
  pub was : state_of old.pipeline.output.way ≡ Opened
  pub is : state_of new.pipeline.output.way ≡ Opened
  pub heard : IsHeard old.pipeline.output.way

abbrev pub TurnGoes : WorkOf → WorkOf → Type 0
TurnGoes old new = (job : Job) (a : Activity) (j : ℕ) (at : ℕ → ℕ) (rows : List Row) → Stands job a j at old → Turns a rows old new → Does job a j at old Work new

-- the operator had ended, what was packed went on, and the word was ended
pub record Closes (a : Activity) (old new : WorkOf) : Type 0 where
  pub on : GoesOn a old new
  pub finishes : Finishes old.pipeline new.pipeline
  pub operator : OperatorStays old.pipeline.operator new.pipeline.operator
  pub ended : old.pipeline.operator.phase ≡ Ph.Ended
  pub was : state_of old.pipeline.output.way ≡ Opened
  pub is : state_of new.pipeline.output.way ≡ Closed
  pub empty : held_by new.pipeline.output.way ≡ 0
  pub no_fail : HasNoFail new.pipeline.output.way
  pub quiet : IsQuiet new.pipeline.output.way new.pipeline.operator.hands_on

abbrev pub CloseGoes : WorkOf → WorkOf → Type 0
CloseGoes old new = (job : Job) (a : Activity) (j : ℕ) (at : ℕ → ℕ) → Stands job a j at old → Closes a old new → Does job a j at old Work new

-- a mailbox was found empty
pub record FindsNone (a : Activity) (k : ℕ) (old new : WorkOf) : Type 0 where
  pub on : GoesOn a old new
  pub known : k < inputs a.kind
  pub to_come : old.pipeline.operator.ended k ≡ false
  pub others : OthersStay k old.pipeline new.pipeline
  pub rests : Rests (old.pipeline.input k) (new.pipeline.input k)
  pub operator : OperatorStays old.pipeline.operator new.pipeline.operator
  pub output : new.pipeline.output ≡ old.pipeline.output

abbrev pub NoneGoes : WorkOf → WorkOf → Type 0
NoneGoes old new = (job : Job) (a : Activity) (j : ℕ) (at : ℕ → ℕ) (k : ℕ) → Stands job a j at old → FindsNone a k old new → Does job a j at old Work new

-- ---- parcels

-- a parcel came of the task of a partition
pub record Came (a : Activity) (k p : ℕ) (parcel : Parcel) (old new : WorkOf) : Type 0 where
  pub on : GoesOn a old new
  pub known : k < inputs a.kind
  pub to_come : old.pipeline.operator.ended k ≡ false
  pub no_fail : parcel ≢ P.Fail
  pub sent : (m n : ℕ) × IsSent (old.pipeline.input k) m n p
  pub comes : Comes k p parcel old.pipeline new.pipeline
  pub operator : OperatorStays old.pipeline.operator new.pipeline.operator

abbrev pub CameGoes : WorkOf → WorkOf → Type 0
CameGoes old new = (job : Job) (a : Activity) (j : ℕ) (at : ℕ → ℕ) (k p : ℕ) (parcel : Parcel) → Stands job a j at old → Came a k p parcel old new
    → Does job a j at old (Takes k p (signal_of parcel)) new

-- the first parcel that waited in a place was put, by a task that failed or did not
pub record GoesAway (k : ℕ) (parcel : Parcel) (old new : WorkOf) : Type 0 where
  pub knows : Knows old new
  pub out : GoesOut k parcel old.pipeline new.pipeline
  pub operator : OperatorStays old.pipeline.operator new.pipeline.operator

abbrev pub PutGoes : WorkOf → WorkOf → Type 0
PutGoes old new = (job : Job) (a : Activity) (j : ℕ) (at : ℕ → ℕ) (k : ℕ) (parcel : Parcel) → Stands job a j at old → GoesAway k parcel old new
    → Does job a j at old (Puts (at k) (signal_of parcel)) new

-- ---- the abort word

-- nothing of its parts changed
pub record PartsStay (old new : PipelineOf) : Type 0 where
  pub inputs : InputsStay old new
  pub operator : OperatorStays old.operator new.operator
  pub output : new.output ≡ old.output

-- it looked, and the word was not raised
pub record SeesNone (old new : WorkOf) : Type 0 where
  pub knows : Knows old new
  pub parts : PartsStay old.pipeline new.pipeline

abbrev pub LookGoes : WorkOf → WorkOf → Type 0
LookGoes old new = (job : Job) (a : Activity) (j : ℕ) (at : ℕ → ℕ) → Stands job a j at old → SeesNone old new → Does job a j at old (Looks false) new

-- it looked, and stops, since the word was raised
pub record Sees (old new : WorkOf) : Type 0 where
  pub breaks : BreaksDown S.Stopped old new
  pub parts : PartsStay old.pipeline new.pipeline
  pub saw : new.saw ≡ true

abbrev pub SightGoes : WorkOf → WorkOf → Type 0
SightGoes old new = (job : Job) (a : Activity) (j : ℕ) (at : ℕ → ℕ) → Stands job a j at old → Sees old new → Does job a j at old (Looks true) new

-- it looked after it had failed, and the word was raised
pub record SeesFailed (old new : WorkOf) : Type 0 where
  pub was : old.failure ≡ None → ⊥
  pub failure : new.failure ≡ old.failure
  pub raised : new.raised ≡ old.raised
  pub owes_raise : new.owes_raise ≡ old.owes_raise
  pub saw : new.saw ≡ true
  pub parts : PartsStay old.pipeline new.pipeline

abbrev pub FailedSightGoes : WorkOf → WorkOf → Type 0
FailedSightGoes old new = (job : Job) (a : Activity) (j : ℕ) (at : ℕ → ℕ) → Stands job a j at old → SeesFailed old new → Does job a j at old (Looks true) new

-- it raised the word, as it had to
pub record RaisesWord (old new : WorkOf) : Type 0 where
  pub owed : old.owes_raise ≡ true
  pub raised : new.raised ≡ true
  pub owes_raise : new.owes_raise ≡ false
  pub failure : new.failure ≡ old.failure
  pub saw : new.saw ≡ old.saw
  pub parts : PartsStay old.pipeline new.pipeline

abbrev pub RaiseGoes : WorkOf → WorkOf → Type 0
RaiseGoes old new = (job : Job) (a : Activity) (j : ℕ) (at : ℕ → ℕ) → Stands job a j at old → RaisesWord old new → Does job a j at old Raises new

-- ---- faults

abbrev pub outcome_by : OpFault → Outcome
outcome_by (F.Check name) = S.Check name
outcome_by F.Store = S.Store
outcome_by F.NoMemory = S.NoMemory

-- the operator faulted, and nothing went out
pub record Faults (a : Activity) (outcome : Outcome) (old new : WorkOf) : Type 0 where
  pub fault : is_fault outcome ≡ true
  pub breaks : BreaksDown outcome old new
  pub saw : new.saw ≡ old.saw
  pub output : new.pipeline.output ≡ old.pipeline.output
  pub cause : HasCause a.kind outcome (untested_of old.pipeline)

abbrev pub FaultGoes : WorkOf → WorkOf → Type 0
FaultGoes old new = (job : Job) (a : Activity) (j : ℕ) (at : ℕ → ℕ) (outcome : Outcome) → Stands job a j at old → Faults a outcome old new → Does job a j at old Work new

-- what it gave, or what was packed before, could not go on
pub record Spoiled (rows : List Row) (old new : WorkOf) : Type 0 where
  pub breaks : BreaksDown S.NoMemory old new
  pub saw : new.saw ≡ old.saw
  pub inputs : InputsStay old.pipeline new.pipeline
  pub works : Tells old.pipeline.operator → Continues old.pipeline.operator.rest [] rows new.pipeline.operator.rest
  pub alive : Tells old.pipeline.operator → Alive (MayCome new.pipeline.operator) new.pipeline.operator.rest
  pub ends : EndsStay old.pipeline.operator new.pipeline.operator
  pub spoils : Spoils old.pipeline.output rows new.pipeline.output
  pub opened : state_of new.pipeline.output.way ≡ Opened

abbrev pub SpoilGoes : WorkOf → WorkOf → Type 0
SpoilGoes old new = (job : Job) (a : Activity) (j : ℕ) (at : ℕ → ℕ) (rows : List Row) → Stands job a j at old → Spoiled rows old new → Does job a j at old Work new

-- a Fail came of the task of a partition
pub record FailCame (k p : ℕ) (old new : WorkOf) : Type 0 where
  pub breaks : BreaksDown S.Stopped old new
  pub saw : new.saw ≡ old.saw
  pub sent : (m n : ℕ) × IsSent (old.pipeline.input k) m n p
  pub output : new.pipeline.output ≡ old.pipeline.output

abbrev pub FailGoes : WorkOf → WorkOf → Type 0
FailGoes old new = (job : Job) (a : Activity) (j : ℕ) (at : ℕ → ℕ) (k p : ℕ) → k < inputs a.kind → Stands job a j at old → FailCame k p old new → Does job a j at old (Takes k p (signal_of P.Fail)) new

-- why an operator faulted: of the rows that a check had to test one is not TRUE. A row that an input went on to was at hand before
abbrev pub FaultHasCause : WorkOf → WorkOf → Type 0
FaultHasCause old new = (job : Job) (a : Activity) (j : ℕ) (at : ℕ → ℕ) (fault : OpFault) → Stands job a j at old → TellsFault old.pipeline.operator [] new.pipeline.operator fault
    → HasCause a.kind (outcome_by fault) (untested_of old.pipeline)

abbrev pub FedFaultHasCause : WorkOf → WorkOf → Type 0
FedFaultHasCause old new = (job : Job) (a : Activity) (j : ℕ) (at : ℕ → ℕ) (k : ℕ) (fault : OpFault) → k < inputs a.kind → Stands job a j at old
    → Gives (old.pipeline.input k) (new.pipeline.input k) → ((rows : List Row) × Rattle.hy_input.specs.Inputs.brings k (new.pipeline.input k) [] rows)
    → TellsFault old.pipeline.operator (values_of (given (new.pipeline.input k)) ∷ []) new.pipeline.operator fault → HasCause a.kind (outcome_by fault) (untested_of old.pipeline)

-- ---- after a failure

-- a parcel came; its rows are lost
pub record CameAfter (k p : ℕ) (parcel : Parcel) (old new : WorkOf) : Type 0 where
  pub on : GoesOnFailed old new
  pub sent : (m n : ℕ) × IsSent (old.pipeline.input k) m n p
  pub stays : Stays (old.pipeline.input k) (new.pipeline.input k)
  pub others : OthersStay k old.pipeline new.pipeline
  pub closes : ClosesBy k p parcel old.pipeline new.pipeline
  pub output : new.pipeline.output ≡ old.pipeline.output

abbrev pub CameAfterGoes : WorkOf → WorkOf → Type 0
CameAfterGoes old new = (job : Job) (a : Activity) (j : ℕ) (at : ℕ → ℕ) (k p : ℕ) (parcel : Parcel) → k < inputs a.kind → Stands job a j at old → CameAfter k p parcel old new
    → Does job a j at old (Takes k p (signal_of parcel)) new

-- a mailbox was found empty
pub record NoneAfter (old new : WorkOf) : Type 0 where
  pub on : GoesOnFailed old new
  pub inputs : InputsLast old.pipeline new.pipeline
  pub output : new.pipeline.output ≡ old.pipeline.output

abbrev pub NoneAfterGoes : WorkOf → WorkOf → Type 0
NoneAfterGoes old new = (job : Job) (a : Activity) (j : ℕ) (at : ℕ → ℕ) → Stands job a j at old → NoneAfter old new → Does job a j at old Work new

-- its parts were given up, and each receiver is to be told of the failure
pub record TellsFailure (old new : WorkOf) : Type 0 where
  pub on : GoesOnFailed old new
  pub inputs : InputsLast old.pipeline new.pipeline
  pub was : state_of old.pipeline.output.way ≡ Opened
  pub is : state_of new.pipeline.output.way ≡ Failed
  pub fails : Fails old.pipeline.output.way new.pipeline.output.way

abbrev pub FailureGoes : WorkOf → WorkOf → Type 0
FailureGoes old new = (job : Job) (a : Activity) (j : ℕ) (at : ℕ → ℕ) → Stands job a j at old → TellsFailure old new → Does job a j at old Work new

-- its word was ended
pub record ClosesFailed (old new : WorkOf) : Type 0 where
  pub on : GoesOnFailed old new
  pub inputs : InputsLast old.pipeline new.pipeline
  pub was : state_of old.pipeline.output.way ≡ Failed
  pub is : state_of new.pipeline.output.way ≡ Closed
  pub still : WayStays old.pipeline.output.way new.pipeline.output.way
  pub posts : Posts P.Close old.pipeline.output.way new.pipeline.output.way

abbrev pub FailedCloseGoes : WorkOf → WorkOf → Type 0
FailedCloseGoes old new = (job : Job) (a : Activity) (j : ℕ) (at : ℕ → ℕ) → Stands job a j at old → ClosesFailed old new → Does job a j at old Work new

-- ---- at the beginning and at the end

-- nothing happened to it yet
pub record IsNewWork (job : Job) (a : Activity) (j : ℕ) (scanned handed : List Row) (at : ℕ → ℕ) (t : WorkOf) : Type 0 where
  pub within : j < job.partitions
  pub new : IsNewPipeline job a j scanned handed at t.pipeline
  pub failure : t.failure ≡ None
  pub raised : t.raised ≡ false
  pub owes_raise : t.owes_raise ≡ false
  pub saw : t.saw ≡ false
  pub untested : untested_of t.pipeline ≡ []
  pub closed : (k p : ℕ) → closed_at (t.pipeline.input k) p ≡ false

abbrev pub NewIsNew : WorkOf → Type 0
NewIsNew t = (job : Job) (a : Activity) (j : ℕ) (scanned handed : List Row) (at : ℕ → ℕ) → IsNewWork job a j scanned handed at t
    → IsNewTask job a j scanned handed (task_of job a at (task_seen t))

-- its word has ended and went out, each of its senders has closed, and it raised the word where it had to
pub record IsAtEnd (a : Activity) (t : WorkOf) : Type 0 where
  pub closed : state_of t.pipeline.output.way ≡ Closed
  pub idle : is_idle t.pipeline.output.way
  pub ended : (k : ℕ) → k < inputs a.kind → HasEnded (t.pipeline.input k)
  pub owes_raise : t.owes_raise ≡ false

abbrev pub EndIsDone : WorkOf → Type 0
EndIsDone t = (job : Job) (a : Activity) (j : ℕ) (at : ℕ → ℕ) → Stands job a j at t → IsAtEnd a t → IsDoneTask job a j (task_of job a at (task_seen t))
