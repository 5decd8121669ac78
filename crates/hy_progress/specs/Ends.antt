-- What each task's record has to meet by itself, and what is between the tasks, for the records of stages to be settled.
use Rattle.std.specs.Prelude.{◌≡◌, ◌≢◌, ◌<◌, ℕ, true, List}
use Rattle.std.specs.List.{Contains}
use Rattle.hy_job.specs.declared.job.Activity.{Activity}
use Rattle.hy_job.specs.declared.job.Edge.{Edge}
use Rattle.hy_job.specs.declared.job.Block.{Block}
use Rattle.hy_job.specs.declared.job.Job.{Job}
use Rattle.hy_job.specs.declared.job.Stage.{Stage}
use Rattle.hy_job.specs.Stages.{activities_in}
use Rattle.hy_job.specs.Settled.{Completed, EachTask, HasWords, IsCompleted, IsFailed, IsRaisedBeside, Records, Settled, StopsBy, TakesFrom, TaskRecord, is_fault, taken_of}

-- a task's own part
pub record MeetsParts (job : Job) (a : Activity) (j : ℕ) (r : TaskRecord) : Type 0 where
  pub completed : r.outcome ≡ Completed → IsCompleted job a j r
  pub failed : r.outcome ≢ Completed → IsFailed job a j r
  pub words : HasWords job a.number j r
  pub taken : TakesFrom job a j r.took
  pub raised : r.raised ≡ is_fault r.outcome
  pub stopped : StopsBy r.outcome r

-- what is between the tasks
pub record MeetBetween (job : Job) (stages : List Stage) (records : Records) : Type 0 where
  pub delivered : (e : Edge) (s r : ℕ) → Contains job.edges e → Contains (activities_in stages) e.to → s < job.partitions → r < job.partitions
      → taken_of e.input s (records e.to r).took ≡ (records e.from s).put r
  pub handed : (b : Block) (j : ℕ) → Contains job.blocks b → Contains (activities_in stages) b.after → j < job.partitions
      → (records b.after j).handed ≡ (records b.before j).hands_on
  pub saw : EachTask job stages (λ a j. (records a.number j).saw ≡ true → IsRaisedBeside job stages records a.number)

abbrev pub RecordsSettle : Type 0
RecordsSettle = (job : Job) (stages : List Stage) (records : Records) → EachTask job stages (λ a j. MeetsParts job a j (records a.number j)) → MeetBetween job stages records → Settled job stages records
