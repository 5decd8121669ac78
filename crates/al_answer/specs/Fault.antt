-- The fault of a check that received a row which is not TRUE.
use Rattle.std.specs.Prelude.{◌≡◌, ◌<◌, ℕ, Bool, true, false, List, [], ◌∷◌, ◌++◌}
use Rattle.std.specs.List.{Contains}
use Rattle.al_plan.specs.declared.expr.Expr.{Expr}
use Rattle.al_plan.specs.Eval.{Bytes}
use Rattle.al_plan.specs.Allows.{Sets}
use Rattle.al_plan.specs.Refines.{Fills}
use Rattle.al_phys.specs.declared.phys.Phys.{Phys}
use Rattle.al_phys.specs.declared.phys.Phys.TheVariants as Q
use Rattle.al_phys.specs.Operators.{phys_live, phys_scans, operators}
use Rattle.al_phys.specs.PAllows.{PFaults}
use Rattle.al_phys.specs.Placed.{Placed}
use Rattle.hy_job.specs.declared.job.Activity.{Activity}
use Rattle.hy_job.specs.declared.job.Edge.{Edge}
use Rattle.hy_job.specs.declared.job.Block.{Block}
use Rattle.hy_job.specs.declared.job.Job.{Job}
use Rattle.hy_job.specs.declared.job.Stage.{Stage}
use Rattle.hy_job.specs.Columns.{Row, holds}
use Rattle.hy_job.specs.Stages.{AreNext, activities_in}
use Rattle.hy_job.specs.Settled.{IsFaulty, Records, Check}
use Rattle.al_jobgen.specs.Columns.{rex_of}
use Rattle.al_jobgen.specs.JobOf.{piece_of, last_of, job_of}
use Rattle.al_jobgen.specs.Added.{activities_from}
use Rattle.al_answer.specs.Flow.{Flow, Works, Carries, HandsOn, Flows}
use Rattle.al_answer.specs.Answer.{IsRun, AllCompleted}

-- where the activities of a check and those below it did whole runs, reading checks as passing all rows on, and the check
-- received a row that is not TRUE, the plan that it is a part of faults by its name
abbrev pub ChecksFault : Type 0
ChecksFault = (whole p : Phys) (name : Bytes) (c : Expr) (n : ℕ) (sets : Sets) (flow : Flow) (start : ℕ) → 0 < n → Placed whole n → Contains (operators whole) (Q.Check name c p) → Fills (phys_scans p) sets
    → Flows n true sets flow (activities_from start (piece_of (Q.Check name c p)).steps) ((piece_of (Q.Check name c p)).edges start) ((piece_of (Q.Check name c p)).blocks start)
    → (j : ℕ) → j < n → (row : Row) → Contains (flow.received (last_of (piece_of (Q.Check name c p)) start) j 0) row → holds (rex_of (phys_live p) c) row ≡ false → PFaults whole sets n name

-- the tasks of these stages did whole runs, which fit together
pub record FlowsIn (job : Job) (stages : List Stage) (passing : Bool) (sets : Sets) (flow : Flow) : Type 0 where
  pub works : (a : Activity) → Contains job.activities a → Contains (activities_in stages) a.number → (j : ℕ) → j < job.partitions → Works job.partitions passing sets flow a j
  pub carries : (e : Edge) → Contains job.edges e → Contains (activities_in stages) e.to → Carries job.partitions flow e
  pub hands : (b : Block) → Contains job.blocks b → Contains (activities_in stages) b.after → HandsOn job.partitions flow b

-- then a check of these stages that received a row which is not TRUE faults in the physical plan
abbrev pub FlowsFault : Type 0
FlowsFault = (ph : Phys) (n : ℕ) (sets : Sets) (stages : List Stage) (flow : Flow) → 0 < n → Placed ph n → Fills (phys_scans ph) sets → AreNext (job_of ph n) [] stages → FlowsIn (job_of ph n) stages true sets flow
    → (a : Activity) (j : ℕ) (name : Bytes) → Contains (job_of ph n).activities a → Contains (activities_in stages) a.number → j < n → IsFaulty a.kind name (flow.received a.number j 0) → PFaults ph sets n name

-- where a task of the last of these stages stopped by a check of this name, all tasks of the stages before having completed,
-- the physical plan faults by it
abbrev pub JobFaults : Type 0
JobFaults = (ph : Phys) (n : ℕ) (sets : Sets) (before : List Stage) (last : Stage) (records : Records) → IsRun ph n sets (before ++ last ∷ []) records → AreNext (job_of ph n) [] (before ++ last ∷ [])
    → AllCompleted (job_of ph n) before records → (a j : ℕ) (name : Bytes) → Contains last.activities a → j < n → (records a j).outcome ≡ Check name → PFaults ph sets n name
