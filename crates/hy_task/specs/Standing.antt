-- A task between its steps: what it is made of, what it knows of the abort word, and what is true of both.
use Rattle.std.specs.Prelude.{◌≡◌, ◌≢◌, ◌<◌, ◌≤◌, ℕ, Bool, true, ◌||◌, Option, Some, None, List, [], ◌++◌}
use Rattle.hy_frame.specs.declared.writer.WriterState.{WriterState}
use Rattle.hy_frame.specs.declared.writer.WriterState.TheVariants.{Initial, Opened, Failed, Closed}
use Rattle.hy_job.specs.declared.job.Activity.{Activity}
use Rattle.hy_job.specs.declared.job.Job.{Job}
use Rattle.hy_job.specs.Runs.{IsReceiver, IsSender}
use Rattle.hy_job.specs.Settled.{Outcome, is_fault}
use Rattle.hy_job.specs.Sound.{inputs, width_in}
use Rattle.hy_driver.specs.Rows.{Row}
use Rattle.hy_driver.specs.Seen.{Seen}
use Rattle.hy_driver.specs.declared.phase.Phase.TheVariants.{Ended, GivenUp}
use Rattle.hy_output.specs.declared.way.Way.{Way}
use Rattle.hy_output.specs.declared.way.Way.TheVariants as W
use Rattle.hy_output.specs.Keeper.{kept_rows}
use Rattle.hy_output.specs.Outputs.{packed}
use Rattle.hy_output.specs.Ways.{HasNoFail, offers, places, rows_waiting, state_of}
use Rattle.hy_input.specs.Inputs.{InputOf, IsDone, IsSent}
use Rattle.hy_input.specs.Laws.{HasRowsOf}
use Rattle.hy_course.specs.Course.{outcome_of}
use Rattle.hy_course.specs.Task.{Deed, Moves}
use Rattle.hy_pipeline.specs.Pipeline.{AreApart, PipelineOf}
use Rattle.hy_pipeline.specs.Tasks.{TaskSeen, task_of}
use Rattle.hy_pipeline.specs.Tests.{at_hand, check_of, untested_of}

pub record WorkOf : Type 1 where
  pub pipeline : PipelineOf
  -- how it failed, where it did
  pub failure : Option Outcome
  -- whether it raised the abort word, whether it still has to, and whether it saw that the word was raised
  pub raised : Bool
  pub owes_raise : Bool
  pub saw : Bool

-- of these rows of its operator and those that were kept, what a task that has not failed hands on; over a wire nothing
abbrev pub left_by : Way → List Row → List Row
left_by (W.Wire w) left = []
left_by (W.Kept k) left = kept_rows k ++ left

abbrev pub hands_on_of : Option Outcome → PipelineOf → List Row
hands_on_of None p = left_by p.output.way p.operator.hands_on
hands_on_of (Some outcome) p = []

-- as its record sees it
abbrev pub task_seen : WorkOf → TaskSeen
task_seen t = record {
  pipeline = t.pipeline;
  untested = untested_of t.pipeline;
  failure = t.failure;
  raised = t.raised;
  saw = t.saw;
  hands_on = hands_on_of t.failure t.pipeline;
}

-- ---- what it is made for

-- each place of its output is for a receiver of its own, and each receiver has one
pub record IsPlaced (job : Job) (a : Activity) (j : ℕ) (at : ℕ → ℕ) (way : Way) : Type 0 where
  pub apart : AreApart at (places way)
  pub receiver : (k : ℕ) → k < places way → IsReceiver job a.number j (at k) × (at k < job.partitions)
  pub reached : (r : ℕ) → IsReceiver job a.number j r → (k : ℕ) × (k < places way) × (at k ≡ r)

-- at this input its senders send, and no others
pub record IsFrom (job : Job) (a : Activity) (j k : ℕ) (x : InputOf) : Type 0 where
  pub sender : (m n p : ℕ) → IsSent x m n p → IsSender job a j k p
  pub sent : (p : ℕ) → IsSender job a j k p → (m n : ℕ) × IsSent x m n p

-- its operator takes rows as wide as those that come, and tests what the activity checks
pub record IsSuited (job : Job) (a : Activity) (s : Seen) : Type 0 where
  pub widths : (k : ℕ) → k < inputs a.kind → s.fixed.width k ≡ width_in job a.number k
  pub check : s.fixed.check ≡ check_of a.kind

-- ---- a task that has not failed

-- the rows at hand are as wide as its operator takes them
abbrev pub AreWide : Activity → PipelineOf → Type 0
AreWide a p = (k : ℕ) → k < inputs a.kind → HasRowsOf (p.input k) (p.operator.fixed.width k)

-- over a wire nothing is handed on
abbrev pub IsQuiet : Way → List Row → Type 0
IsQuiet (W.Wire w) left = left ≡ []
IsQuiet (W.Kept k) left = Unit {0}

-- where no more rows go on, just what waits may be put
abbrev pub OnlyWaits : Way → Type 0
OnlyWaits way = (k : ℕ) → k < places way → (put : List Row) → offers way k [] put → put ≡ rows_waiting way k

-- the operator has ended: it was told of the end of each input, and has tested all rows
pub record IsThrough (s : Seen) : Type 0 where
  pub ended : (k : ℕ) → s.ended k ≡ true
  pub untested : s.untested ≡ []

-- its word has ended as well
pub record HasFinished (p : PipelineOf) : Type 0 where
  pub phase : p.operator.phase ≡ Ended
  pub packed_is : packed p.output ≡ []
  pub waits : OnlyWaits p.output.way
  pub quiet : IsQuiet p.output.way p.operator.hands_on

-- by how far its word has come
abbrev pub StandsAt : WriterState → PipelineOf → Type 0
StandsAt Initial p = Unit {0}
StandsAt Opened p = Unit {0}
StandsAt Failed p = ⊥
StandsAt Closed p = HasFinished p

pub record Lives (a : Activity) (p : PipelineOf) : Type 0 where
  pub going : p.operator.phase ≢ GivenUp
  pub wide : AreWide a p
  -- where there is no input, none comes
  pub beyond : (k : ℕ) → inputs a.kind ≤ k → (p.operator.ended k ≡ true) × (at_hand (p.input k) ≡ [])
  -- the operator was told of an input's end where that is done
  pub told : (k : ℕ) → k < inputs a.kind → p.operator.ended k ≡ true → IsDone (p.input k)
  pub over : p.operator.phase ≡ Ended → IsThrough p.operator
  pub no_fail : HasNoFail p.output.way
  pub stage : StandsAt (state_of p.output.way) p

-- ---- what is true between its steps

pub record Stands (job : Job) (a : Activity) (j : ℕ) (at : ℕ → ℕ) (t : WorkOf) : Type 0 where
  pub placed : IsPlaced job a j at t.pipeline.output.way
  pub from : (k : ℕ) → k < inputs a.kind → IsFrom job a j k (t.pipeline.input k)
  pub suited : IsSuited job a t.pipeline.operator
  -- it raised the word where it met a fault, or still has to
  pub raises : is_fault (outcome_of t.failure) ≡ (t.raised || t.owes_raise)
  pub lives : t.failure ≡ None → Lives a t.pipeline
  -- it took and met nothing before its output was open
  pub fails : (t.failure ≡ None → ⊥) → state_of t.pipeline.output.way ≢ Initial

-- a step: by this deed it comes from here to there, and stands
pub record Does (job : Job) (a : Activity) (j : ℕ) (at : ℕ → ℕ) (old : WorkOf) (deed : Deed) (new : WorkOf) : Type 0 where
  pub moves : Moves job a j (task_of job a at (task_seen old)) deed (task_of job a at (task_seen new))
  pub stands : Stands job a j at new
