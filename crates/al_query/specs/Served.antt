-- What the words and the files ask for: which status is due, and what is to be written.
use Rattle.std.specs.Prelude.{◌≡◌, ◌⊎◌, ℕ, ◌+◌, ◌-◌, Bool, true, false, nat_le, min, List, [], ◌∷◌, ◌++◌, length, Option, Some, None, Result, Ok, Err, if◌then◌else◌}
use Rattle.al_value.specs.declared.value.Value.{Value}
use Rattle.al_value.specs.Outside.{Told}
use Rattle.al_io.specs.Outside.{Bytes, Files, GainsPrefix}
use Rattle.al_csv.specs.Records.{records}
use Rattle.al_csv.specs.Generator.{generated}
use Rattle.al_csv.specs.declared.decl.Decl.{Decl}
use Rattle.al_csv.specs.declared.refused.DataKind.{DataKind}
use Rattle.al_csv.specs.declared.refused.DataKind.TheVariants as kind
use Rattle.al_csv.specs.declared.refused.BadRecord.{BadRecord}
use Rattle.al_words.specs.declared.command.Command.{Command}
use Rattle.al_words.specs.declared.command.Command.TheVariants as C
use Rattle.al_words.specs.Words.{IsCommand}
use Rattle.al_plan.specs.declared.file.PlanFile.{PlanFile}
use Rattle.al_plan.specs.declared.file.Refused.{Refused}
use Rattle.al_plan.specs.declared.file.RefusedKind.TheVariants as refused
use Rattle.al_plan.specs.declared.plan.Plan.{Plan}
use Rattle.al_plan.specs.Allows.{Faults}
use Rattle.al_plan.specs.Refines.{Refines}
use Rattle.al_plan.specs.Accept.{IsAccepted, accept_refusal}
use Rattle.al_read.specs.Reads.{Reads, IsReadRefusal, refusal}
use Rattle.al_plain.specs.declared.plan.Data.{Data}
use Rattle.al_plain.specs.Gives.{sets_of}
use Rattle.al_print.specs.Canonical.{file_with, plan_text}
use Rattle.al_print.specs.Explanation.{explanation}
use Rattle.al_rule.specs.declared.trace.TraceStep.{TraceStep}
use Rattle.al_opt.specs.Optimised.{LegalTrace}
use Rattle.al_phys.specs.declared.phys.Phys.{Phys}
use Rattle.al_phys.specs.Placed.{Placed}
use Rattle.al_phys.specs.Stands.{Stands}
use Rattle.hy_job.specs.declared.job.Job.{Job}
use Rattle.hy_job.specs.declared.job.Stage.{Stage}
use Rattle.hy_job.specs.Sound.{SoundJob}
use Rattle.hy_job.specs.Stages.{StageOf}
use Rattle.al_choose.specs.Chosen.{chosen}
use Rattle.al_jobgen.specs.JobOf.{job_of}
use Rattle.al_query.specs.declared.status.DataRefused.{DataRefused}
use Rattle.al_query.specs.declared.status.Status.{Status}
use Rattle.al_query.specs.declared.status.Status.TheVariants as St
use Rattle.al_query.specs.Answer.{IsAnswer}

-- ---- plan files

-- the plan file is there, states this plan, and is accepted
abbrev pub IsPlan : Option Bytes → PlanFile → Type 0
IsPlan file f = (bytes : Bytes) × (file ≡ Some bytes) × Reads bytes f × IsAccepted f

-- why a plan file is refused: it is absent, or it has no reading, or what it states is not accepted
pub data IsPlanRefused (file : Option Bytes) (r : Refused) : Type 0 where
  absent : file ≡ None → r ≡ refusal refused.Absent 0 → IsPlanRefused file r
  unread : (bytes : Bytes) → file ≡ Some bytes → IsReadRefusal bytes r → IsPlanRefused file r
  unaccepted : (bytes : Bytes) → file ≡ Some bytes → (f : PlanFile) → Reads bytes f → accept_refusal f ≡ Some r → IsPlanRefused file r

-- ---- data files

-- what is wrong with a whole file
abbrev pub of_file : DataKind → BadRecord
of_file k = record { kind = k; number = 0; column = 0 }

-- the most bytes of a file behind so many bytes of others: 33,554,432, and 67,108,864 with the others
abbrev pub room_behind : ℕ → ℕ
room_behind before = min 33554432 (67108864 - before)

-- the rows of a dataset's file, or what is wrong with it
abbrev pub file_rows : ℕ → Decl → Option Bytes → Result (List (List Value)) BadRecord
file_rows before d None = Err (of_file kind.Absent)
file_rows before d (Some bytes) = if nat_le (length bytes) (room_behind before) then records d.columns bytes else Err (of_file kind.TooLarge)

abbrev pub size_of : Option Bytes → ℕ
size_of None = 0
size_of (Some bytes) = length bytes

-- a dataset before the others, or the first refusal
abbrev pub with_set : Decl → Result (List (List Value)) BadRecord → Result (List Data) DataRefused → Result (List Data) DataRefused
with_set d (Err bad) others = Err (record { file = d.file; bad = bad })
with_set d (Ok rows) (Err e) = Err e
with_set d (Ok rows) (Ok sets) = Ok (record { name = d.name; rows = rows } ∷ sets)

-- the datasets in the order of their declaration, or the first file that is refused; so many bytes of others stand before
unfoldable pub loaded : Files → ℕ → List Decl → Result (List Data) DataRefused
loaded files before [] = Ok []
loaded files before (d ∷ ds) = with_set d (file_rows before d (files d.file)) (loaded files (before + size_of (files d.file)) ds)

-- ---- what a command writes

-- these bytes are an answer of the plan over its data
pub record IsServed (files : Files) (name text : Bytes) : Type 0 where
  pub file : PlanFile
  pub plan : IsPlan (files name) file
  pub sets : List Data
  pub data_read : loaded files 0 file.datasets ≡ Ok sets
  pub answer : IsAnswer file.root (sets_of sets) text

-- these bytes are the canonical text of the plan file
abbrev pub IsPrinted : Files → Bytes → Bytes → Type 0
IsPrinted files name text = (f : PlanFile) × IsPlan (files name) f × (text ≡ plan_text f)

-- a plan is compiled for this many partitions: legal steps lead to a plan that may stand for it, the physical plan that is chosen is
-- placed and stands for that one, and the job is the physical plan's
pub record IsCompiled (root : Plan) (partitions : ℕ) (steps : List TraceStep) (optimised : Plan) (phys : Phys) (job : Job) : Type 0 where
  pub legal : LegalTrace root steps optimised
  pub refines : Refines optimised root
  pub is_chosen : phys ≡ chosen partitions optimised
  pub placed : Placed phys partitions
  pub stands : Stands optimised phys partitions
  pub job_is : job ≡ job_of phys partitions
  pub sound : SoundJob job

-- these bytes are the trace, the plan that it leads to, the physical plan and the job of the plan of the file
pub record IsExplained (files : Files) (name : Bytes) (partitions : ℕ) (text : Bytes) : Type 0 where
  pub file : PlanFile
  pub plan : IsPlan (files name) file
  pub steps : List TraceStep
  pub optimised : Plan
  pub phys : Phys
  pub job : Job
  pub compiled : IsCompiled file.root partitions steps optimised phys job
  pub stages : List Stage
  pub in_stages : StageOf job stages
  pub parts : text ≡ explanation steps (file_with file optimised) phys job stages

-- the bytes that a command writes; the others are not served yet
abbrev pub IsText : Command → Files → Bytes → Type 0
IsText (C.Check plan) files text = IsPrinted files plan text
IsText (C.Explain plan partitions) files text = IsExplained files plan partitions text
IsText (C.Plain plan) files text = IsServed files plan text
IsText (C.Step plan settings schedule) files text = IsServed files plan text
IsText (C.Run plan settings workers) files text = ⊥
IsText (C.Gen seed rows) files text = text ≡ generated seed rows
IsText (C.Drill seed rows plan settings) files text = ⊥
IsText (C.Frames plan dataset frame_size) files text = ⊥

abbrev pub is_served : Command → Bool
is_served (C.Check plan) = true
is_served (C.Explain plan partitions) = true
is_served (C.Plain plan) = true
is_served (C.Step plan settings schedule) = true
is_served (C.Run plan settings workers) = false
is_served (C.Gen seed rows) = true
is_served (C.Drill seed rows plan settings) = false
is_served (C.Frames plan dataset frame_size) = false

-- the plan file of a command that is served
abbrev pub plan_of : Command → Option Bytes
plan_of (C.Check plan) = Some plan
plan_of (C.Explain plan partitions) = Some plan
plan_of (C.Plain plan) = Some plan
plan_of (C.Step plan settings schedule) = Some plan
plan_of _ = None

-- the plan file of a command that reads its data
abbrev pub query_of : Command → Option Bytes
query_of (C.Plain plan) = Some plan
query_of (C.Step plan settings schedule) = Some plan
query_of _ = None

-- ---- which status is due

-- the plan file is good and a file of its data is refused
abbrev pub IsBadData : Files → Bytes → DataRefused → Type 0
IsBadData files name d = (f : PlanFile) × IsPlan (files name) f × (loaded files 0 f.datasets ≡ Err d)

-- a check of that name faults over good data
abbrev pub IsFaulty : Files → Bytes → Bytes → Type 0
IsFaulty files name own = (f : PlanFile) × (sets : List Data) × IsPlan (files name) f × (loaded files 0 f.datasets ≡ Ok sets) × Faults f.root (sets_of sets) [] [] own

-- the plan and its data are good, and no check faults
abbrev pub IsSound : Files → Bytes → Type 0
IsSound files name =
    (f : PlanFile) × (sets : List Data) × IsPlan (files name) f × (loaded files 0 f.datasets ≡ Ok sets) × ((own : Bytes) → Faults f.root (sets_of sets) [] [] own → ⊥)

-- a command asks for this status
abbrev pub IsAsked : Command → Files → Status → Type 0
IsAsked c files St.Done = (text : Bytes) × IsText c files text
IsAsked c files St.Usage = is_served c ≡ false
IsAsked c files (St.PlanRefused r) = (plan : Bytes) × (plan_of c ≡ Some plan) × IsPlanRefused (files plan) r
IsAsked c files (St.DataRefused d) = (plan : Bytes) × (query_of c ≡ Some plan) × IsBadData files plan d
IsAsked c files (St.CheckFailed own) = (plan : Bytes) × (query_of c ≡ Some plan) × IsFaulty files plan own
IsAsked c files St.SourceFault = Unit {0}
IsAsked c files St.SinkFault = (text : Bytes) × IsText c files text
IsAsked c files St.NoMemory = Unit {0}

-- the words and the files ask for this status
abbrev pub IsDue : List Bytes → Files → Status → Type 0
IsDue words files St.Usage = (c : Command) → IsCommand words c → is_served c ≡ false
IsDue words files St.Done = (c : Command) × IsCommand words c × IsAsked c files St.Done
IsDue words files (St.PlanRefused r) = (c : Command) × IsCommand words c × IsAsked c files (St.PlanRefused r)
IsDue words files (St.DataRefused d) = (c : Command) × IsCommand words c × IsAsked c files (St.DataRefused d)
IsDue words files (St.CheckFailed own) = (c : Command) × IsCommand words c × IsAsked c files (St.CheckFailed own)
IsDue words files St.SourceFault = Unit {0}
IsDue words files St.SinkFault = (c : Command) × IsCommand words c × IsAsked c files St.SinkFault
IsDue words files St.NoMemory = Unit {0}

-- a command that is served, with good files
abbrev pub IsGood : Command → Files → Type 0
IsGood (C.Check plan) files = (f : PlanFile) × IsPlan (files plan) f
IsGood (C.Explain plan partitions) files = (f : PlanFile) × IsPlan (files plan) f
IsGood (C.Plain plan) files = IsSound files plan
IsGood (C.Step plan settings schedule) files = IsSound files plan
IsGood (C.Run plan settings workers) files = ⊥
IsGood (C.Gen seed rows) files = Unit {0}
IsGood (C.Drill seed rows plan settings) files = ⊥
IsGood (C.Frames plan dataset frame_size) files = ⊥

-- a refusal, which the words and the files determine
abbrev pub is_settled : Status → Bool
is_settled St.Usage = true
is_settled (St.PlanRefused r) = true
is_settled (St.DataRefused d) = true
is_settled _ = false

-- a status that may come before a refusal that is due; nothing is written then, so a sink's fault is none
abbrev pub is_cut : Status → Bool
is_cut St.SourceFault = true
is_cut St.NoMemory = true
is_cut _ = false

-- what is due is the status, unless a fault of the source or want of memory came first
abbrev pub IsDueOrCut : Status → Status → Type 0
IsDueOrCut due status = (status ≡ due) ⊎ (is_cut status ≡ true)

-- ---- without a source that tells

-- a command that may end so: only one with a plan file is refused for it or reads the source, and only one that reads its data is
-- refused for that or names a check
abbrev pub MayEnd : Command → Status → Type 0
MayEnd c (St.PlanRefused r) = (plan : Bytes) × (plan_of c ≡ Some plan)
MayEnd c (St.DataRefused d) = (plan : Bytes) × (query_of c ≡ Some plan)
MayEnd c (St.CheckFailed own) = (plan : Bytes) × (query_of c ≡ Some plan)
MayEnd c St.SourceFault = (plan : Bytes) × (plan_of c ≡ Some plan)
MayEnd c _ = Unit {0}

-- the words ask for a command that may end so
abbrev pub IsFitting : List Bytes → Status → Type 0
IsFitting words (St.PlanRefused r) = (c : Command) × IsCommand words c × MayEnd c (St.PlanRefused r)
IsFitting words (St.DataRefused d) = (c : Command) × IsCommand words c × MayEnd c (St.DataRefused d)
IsFitting words (St.CheckFailed own) = (c : Command) × IsCommand words c × MayEnd c (St.CheckFailed own)
IsFitting words St.SourceFault = (c : Command) × IsCommand words c × MayEnd c St.SourceFault
IsFitting words _ = Unit {0}

-- what writing this text, and nothing else, comes to
abbrev pub Writes : Bytes → Option Bytes → Option Bytes → Status → Type 0
Writes text old new St.Done = Told old (λ was. new ≡ Some (was ++ text))
Writes text old new St.SinkFault = Told old (λ was. GainsPrefix was text new)
Writes text old new St.NoMemory = new ≡ old
Writes text old new _ = ⊥
