-- What is determined by the files that a command is given.
use Rattle.std.specs.Prelude.{◌≡◌, ◌⊎◌, ℕ, Bool, true, false, List, Option, Some}
use Rattle.al_io.specs.Outside.{Bytes, Files}
use Rattle.al_words.specs.declared.command.Command.{Command}
use Rattle.al_words.specs.declared.command.Command.TheVariants as C
use Rattle.al_words.specs.Words.{IsCommand}
use Rattle.al_plan.specs.declared.file.PlanFile.{PlanFile}
use Rattle.al_plan.specs.declared.file.Refused.{Refused}
use Rattle.al_plan.specs.declared.plan.Plan.{Plan}
use Rattle.al_rule.specs.declared.trace.TraceStep.{TraceStep}
use Rattle.al_phys.specs.declared.phys.Phys.{Phys}
use Rattle.hy_job.specs.declared.job.Job.{Job}
use Rattle.al_job_laws.specs.InOrder.{IsInOrder}
use Rattle.al_query.specs.declared.status.Status.TheVariants as St
use Rattle.al_query.specs.Served.{IsPlan, IsPlanRefused, IsCompiled, IsText, IsDue, plan_of}

-- what a plan is compiled to
pub record AreSame (steps others : List TraceStep) (q r : Plan) (phys ph : Phys) (job made : Job) : Type 0 where
  pub steps_are : steps ≡ others
  pub plan_is : q ≡ r
  pub phys_is : phys ≡ ph
  pub job_is : job ≡ made

-- a plan compiles in one way for a number of partitions
abbrev pub CompilesOneWay : Type 0
CompilesOneWay = (root : Plan) (partitions : ℕ) (steps others : List TraceStep) (q r : Plan) (phys ph : Phys) (job made : Job)
    → IsCompiled root partitions steps q phys job → IsCompiled root partitions others r ph made → AreSame steps others q r phys ph job made

-- and its job stands in order
abbrev pub CompiledIsInOrder : Type 0
CompiledIsInOrder = (root : Plan) (partitions : ℕ) (steps : List TraceStep) (q : Plan) (phys : Phys) (job : Job) → IsCompiled root partitions steps q phys job → IsInOrder job

-- a command that makes its text of the words and the plan file alone, and has no choice
abbrev pub is_sole : Command → Bool
is_sole (C.Check plan) = true
is_sole (C.Explain plan partitions) = true
is_sole (C.Gen seed rows) = true
is_sole _ = false

-- such a command has one text
abbrev pub TextsAreOne : Type 0
TextsAreOne = (c : Command) (files : Files) (text other : Bytes) → is_sole c ≡ true → IsText c files text → IsText c files other → text ≡ other

-- a plan file states a plan that is accepted, or there is a refusal of it
abbrev pub FilesAreAnswered : Type 0
FilesAreAnswered = (file : Option Bytes) → ((f : PlanFile) × IsPlan file f) ⊎ ((r : Refused) × IsPlanRefused file r)

-- where it states none, a refusal is due
abbrev pub UnplannedIsRefused : Type 0
UnplannedIsRefused = (words : List Bytes) (files : Files) (c : Command) (plan : Bytes) → IsCommand words c → plan_of c ≡ Some plan → ((f : PlanFile) → IsPlan (files plan) f → ⊥) → (r : Refused) × IsDue words files (St.PlanRefused r)
