-- The answer of a job of a physical plan whose tasks all completed.
use Rattle.std.specs.Prelude.{◌≡◌, ◌<◌, ◌≤◌, ◌-◌, ℕ, false, List, [], map, length, Some}
use Rattle.al_plan.specs.declared.expr.Var.{Var}
use Rattle.al_plan.specs.declared.plan.Plan.{Plan}
use Rattle.al_plan.specs.Eval.{Bytes, bind}
use Rattle.al_plan.specs.Allows.{Sets, Allows, Faults}
use Rattle.al_plan.specs.Refines.{Fills, Refines, scans}
use Rattle.al_phys.specs.declared.phys.Phys.{Phys}
use Rattle.al_phys.specs.Operators.{phys_scans, phys_result}
use Rattle.al_phys.specs.Parts.{Parts, first_part}
use Rattle.al_phys.specs.PAllows.{PAllows, PFaults}
use Rattle.al_phys.specs.Placed.{Placed}
use Rattle.al_phys.specs.Stands.{Stands}
use Rattle.hy_job.specs.declared.job.Job.{Job}
use Rattle.hy_job.specs.declared.job.Stage.{Stage}
use Rattle.hy_job.specs.Columns.{Row}
use Rattle.hy_job.specs.Stages.{StageOf}
use Rattle.hy_job.specs.Settled.{Records, Settled, EachTask, Completed}
use Rattle.al_jobgen.specs.JobOf.{job_of}
use Rattle.al_jobgen.specs.Literals.{LiteralsAreValues}
use Rattle.al_jobgen.specs.Agree.{AreAsWide}
use Rattle.al_answer.specs.Flow.{IsGiven}

-- the list that the task of partition 0 of the job's last activity, which is its result, hands on
abbrev pub answer : Job → Records → List Row
answer job records = (records (length job.activities - 1) 0).hands_on

-- the tasks of these stages of a placed plan's job were run over the datasets, and their records fit together
pub record IsRun (ph : Phys) (n : ℕ) (sets : Sets) (stages : List Stage) (records : Records) : Type 0 where
  pub some : 0 < n
  pub few : n ≤ 16
  pub placed : Placed ph n
  pub fills : Fills (phys_scans ph) sets
  pub literals : LiteralsAreValues (job_of ph n)
  pub settled : Settled (job_of ph n) stages records
  pub given : EachTask (job_of ph n) stages (λ a j. IsGiven sets a.kind (records a.number j).scanned)

abbrev pub AllCompleted : Job → List Stage → Records → Type 0
AllCompleted job stages records = EachTask job stages (λ a j. (records a.number j).outcome ≡ Completed)

-- rows by column that are the first of parts that a physical plan allows
pub record IsAnswer (ph : Phys) (n : ℕ) (vars : List Var) (sets : Sets) (rows : List Row) : Type 0 where
  pub parts : Parts
  pub allowed : PAllows ph false sets n parts
  pub first : map (bind vars) rows ≡ first_part parts
  pub wide : AreAsWide vars rows

-- a job whose tasks all completed hands on an answer
abbrev pub JobComputes : Type 0
JobComputes = (ph : Phys) (n : ℕ) (vars : List Var) (sets : Sets) (stages : List Stage) (records : Records) → phys_result ph ≡ Some vars → IsRun ph n sets stages records
    → StageOf (job_of ph n) stages → AllCompleted (job_of ph n) stages records → IsAnswer ph n vars sets (answer (job_of ph n) records)

-- ---- the plan as it was read

-- an answer of a physical plan is a list that the plan allows which it stands for, and so does the plan which that one refines
abbrev pub AnswersAreAllowed : Type 0
AnswersAreAllowed = (read best : Plan) (ph : Phys) (n : ℕ) (vars : List Var) (sets : Sets) (rows : List Row) → 0 < n → Placed ph n → phys_result ph ≡ Some vars → Refines best read → Stands best ph n → Fills (scans read) sets
    → IsAnswer ph n vars sets rows → Allows read false sets [] [] (map (bind vars) rows)

-- so does a fault
abbrev pub FaultsAreFaults : Type 0
FaultsAreFaults = (read best : Plan) (ph : Phys) (n : ℕ) (sets : Sets) (name : Bytes) → Refines best read → Stands best ph n → Fills (scans read) sets → PFaults ph sets n name → Faults read sets [] [] name
