-- What each step of serving a command tells of the words and the files.
use Rattle.std.specs.Prelude.{◌≡◌, ◌<◌, ◌≤◌, ℕ, ◌+◌, Bool, true, false, List, [], ◌∷◌, ◌++◌, length, Option, Some, None, Result, Ok, Err}
use Rattle.std.specs.List.{All}
use Rattle.al_value.specs.declared.value.Value.{Value}
use Rattle.al_io.specs.Outside.{Bytes, Files}
use Rattle.al_csv.specs.Generator.{generated}
use Rattle.al_csv.specs.Records.{records}
use Rattle.al_csv.specs.declared.decl.Decl.{Decl}
use Rattle.al_csv.specs.declared.refused.BadRecord.{BadRecord}
use Rattle.al_words.specs.declared.command.Command.{Command}
use Rattle.al_words.specs.declared.command.Command.TheVariants as C
use Rattle.al_plan.specs.declared.file.PlanFile.{PlanFile}
use Rattle.al_plan.specs.declared.plan.Plan.{Plan}
use Rattle.al_plan.specs.Allows.{Faults}
use Rattle.al_print.specs.Canonical.{file_with}
use Rattle.al_print.specs.Explanation.{explanation}
use Rattle.al_rule.specs.declared.trace.TraceStep.{TraceStep}
use Rattle.al_phys.specs.declared.phys.Phys.{Phys}
use Rattle.hy_job.specs.declared.job.Job.{Job}
use Rattle.hy_job.specs.declared.job.Stage.{Stage}
use Rattle.hy_job.specs.Stages.{StageOf}
use Rattle.al_plain.specs.declared.plan.Data.{Data}
use Rattle.al_plain.specs.Gives.{sets_of}
use Rattle.al_query.specs.declared.status.Status.{Status}
use Rattle.al_query.specs.declared.status.Status.TheVariants as St
use Rattle.al_query.specs.declared.status.DataRefused.{DataRefused}
use Rattle.al_query.specs.declared.data.Loaded.{Loaded}
use Rattle.al_query.specs.Answer.{IsAnswer}
use Rattle.al_query.specs.Served.{IsPlan, IsPlanRefused, file_rows, size_of, loaded, IsServed, IsPrinted, IsCompiled, IsExplained, IsBadData, IsFaulty, IsText, IsAsked}

-- a status that reading and computing may end with; `Usage` comes only for a command that isn't served
abbrev pub IsStop : Status → Type 0
IsStop St.Done = ⊥
IsStop St.Usage = ⊥
IsStop St.SinkFault = ⊥
IsStop _ = Unit {0}

-- a status that reading, accepting and working on a plan file alone may end with
abbrev pub IsPlanStop : Status → Type 0
IsPlanStop (St.PlanRefused r) = Unit {0}
IsPlanStop St.SourceFault = Unit {0}
IsPlanStop St.NoMemory = Unit {0}
IsPlanStop _ = ⊥

abbrev pub is_usage : {T : Type 0} → Result T Status → Bool
is_usage (Err St.Usage) = true
is_usage _ = false

-- a call ended by a fault of the source
abbrev pub is_source_fault : {T : Type 0} → Result T Status → Bool
is_source_fault (Err St.SourceFault) = true
is_source_fault _ = false

-- a call ended neither with what it makes nor with a fault of the sink
abbrev pub IsNoEnd : Status → Type 0
IsNoEnd St.Done = ⊥
IsNoEnd St.SinkFault = ⊥
IsNoEnd _ = Unit {0}

-- what reading the plan file gave
abbrev pub TellsPlan : Option Bytes → Result PlanFile Status → Type 0
TellsPlan file (Ok f) = IsPlan file f
TellsPlan file (Err (St.PlanRefused r)) = IsPlanRefused file r
TellsPlan file (Err St.SourceFault) = Unit {0}
TellsPlan file (Err St.NoMemory) = Unit {0}
TellsPlan file (Err _) = ⊥

-- what loading one dataset's file gave, behind so many bytes of others
abbrev pub TellsSet : ℕ → Decl → Option Bytes → Result Loaded Status → Type 0
TellsSet before d file (Ok l) = (file_rows before d file ≡ Ok l.data.rows) × (l.data.name ≡ d.name) × (l.size ≡ size_of file)
TellsSet before d file (Err (St.DataRefused r)) = (r.file ≡ d.file) × (file_rows before d file ≡ Err r.bad)
TellsSet before d file (Err St.SourceFault) = Unit {0}
TellsSet before d file (Err St.NoMemory) = Unit {0}
TellsSet before d file (Err _) = ⊥

-- what loading the bytes of a dataset's file gave
abbrev pub TellsBytes : Decl → Bytes → Result Loaded Status → Type 0
TellsBytes d bytes (Ok l) = (records d.columns bytes ≡ Ok l.data.rows) × (l.data.name ≡ d.name) × (l.size ≡ length bytes)
TellsBytes d bytes (Err (St.DataRefused r)) = (r.file ≡ d.file) × (records d.columns bytes ≡ Err r.bad)
TellsBytes d bytes (Err St.NoMemory) = Unit {0}
TellsBytes d bytes (Err _) = ⊥

-- a refusal of a dataset's file, or want of memory
abbrev pub Refuses : Decl → BadRecord → Status → Type 0
Refuses d bad (St.DataRefused r) = (r.file ≡ d.file) × (r.bad ≡ bad)
Refuses d bad St.NoMemory = Unit {0}
Refuses d bad _ = ⊥

-- what loading all datasets gave
abbrev pub TellsData : Files → List Decl → Result (List Data) Status → Type 0
TellsData files decls (Ok sets) = loaded files 0 decls ≡ Ok sets
TellsData files decls (Err (St.DataRefused d)) = loaded files 0 decls ≡ Err d
TellsData files decls (Err St.SourceFault) = Unit {0}
TellsData files decls (Err St.NoMemory) = Unit {0}
TellsData files decls (Err _) = ⊥

-- each dataset has its name and rows as wide as its columns
abbrev pub AreSetsOf : List Decl → List Data → Type 0
AreSetsOf [] [] = Unit {0}
AreSetsOf (d ∷ ds) (x ∷ xs) = (x.name ≡ d.name) × All (λ row. length row ≡ length d.columns) x.rows × AreSetsOf ds xs
AreSetsOf _ _ = ⊥

-- what evaluating a plan over its data gave
abbrev pub TellsEvaluated : PlanFile → List Data → Result Bytes Status → Type 0
TellsEvaluated f sets (Ok text) = IsAnswer f.root (sets_of sets) text
TellsEvaluated f sets (Err (St.CheckFailed own)) = Faults f.root (sets_of sets) [] [] own
TellsEvaluated f sets (Err St.NoMemory) = Unit {0}
TellsEvaluated f sets (Err _) = ⊥

-- what answering a plan gave
abbrev pub TellsAnswer : Files → Bytes → Result Bytes Status → Type 0
TellsAnswer files name (Ok text) = IsServed files name text
TellsAnswer files name (Err (St.PlanRefused r)) = IsPlanRefused (files name) r
TellsAnswer files name (Err (St.DataRefused d)) = IsBadData files name d
TellsAnswer files name (Err (St.CheckFailed own)) = IsFaulty files name own
TellsAnswer files name (Err St.SourceFault) = Unit {0}
TellsAnswer files name (Err St.NoMemory) = Unit {0}
TellsAnswer files name (Err _) = ⊥

-- what making such a text from a plan file alone gave
abbrev pub TellsMade : (Bytes → Type 0) → Option Bytes → Result Bytes Status → Type 0
TellsMade IsSuch file (Ok text) = IsSuch text
TellsMade IsSuch file (Err (St.PlanRefused r)) = IsPlanRefused file r
TellsMade IsSuch file (Err St.SourceFault) = Unit {0}
TellsMade IsSuch file (Err St.NoMemory) = Unit {0}
TellsMade IsSuch file (Err _) = ⊥

-- what printing a plan file gave
abbrev pub TellsPrinted : Files → Bytes → Result Bytes Status → Type 0
TellsPrinted files name = TellsMade (IsPrinted files name) (files name)

-- what explaining the plan of a file gave
abbrev pub TellsExplained : Files → Bytes → ℕ → Result Bytes Status → Type 0
TellsExplained files name partitions = TellsMade (IsExplained files name partitions) (files name)

-- this text explains the plan of the file
pub record Explains (f : PlanFile) (partitions : ℕ) (text : Bytes) : Type 0 where
  pub steps : List TraceStep
  pub optimised : Plan
  pub phys : Phys
  pub job : Job
  pub compiled : IsCompiled f.root partitions steps optimised phys job
  pub stages : List Stage
  pub in_stages : StageOf job stages
  pub parts : text ≡ explanation steps (file_with f optimised) phys job stages

-- the numbers of a command are in their ranges
abbrev pub IsInRange : Command → Type 0
IsInRange (C.Explain plan partitions) = (0 < partitions) × (partitions ≤ 16)
IsInRange _ = Unit {0}

-- what making the text of a command gave
abbrev pub TellsText : Command → Files → Result Bytes Status → Type 0
TellsText c files (Ok text) = IsText c files text
TellsText c files (Err s) = IsAsked c files s

-- a command that reads no file
abbrev pub is_idle : Command → Bool
is_idle (C.Check plan) = false
is_idle (C.Explain plan partitions) = false
is_idle (C.Plain plan) = false
is_idle (C.Step plan settings schedule) = false
is_idle _ = true

-- what making the text of `gen` gave
abbrev pub TellsGenerated : Command → Result Bytes Status → Type 0
TellsGenerated (C.Gen seed rows) (Ok text) = text ≡ generated seed rows
TellsGenerated (C.Gen seed rows) (Err s) = s ≡ St.NoMemory
TellsGenerated c r = Unit {0}
