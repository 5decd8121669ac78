-- Words and files, and which statuses are due for them.
use Rattle.std.specs.Prelude.{ℕ, codes, None, List, [], ◌∷◌}
use Rattle.al_io.specs.Outside.{Bytes, Files}
use Rattle.al_words.specs.declared.command.Command.TheVariants as C
use Rattle.al_plan.specs.declared.file.Refused.{Refused}
use Rattle.al_plan.specs.declared.file.RefusedKind.TheVariants as refused
use Rattle.al_read.specs.Reads.{refusal}
use Rattle.al_query.specs.declared.status.DataRefused.{DataRefused}
use Rattle.al_query.specs.declared.status.Status.TheVariants as St
use Rattle.al_query.specs.Served.{IsDue, IsDueOrCut, IsGood, MayEnd}

-- no file is there
abbrev pub no_files : Files
no_files name = None

abbrev pub check_words : List Bytes
check_words = codes "check" ∷ codes "p" ∷ []

-- ---- a plan file that is absent

-- `check` is refused for it at place 0, and no other refusal or status that depends on files is due
pub record AbsentPlan : Type 0 where
  pub absent : IsDue check_words no_files (St.PlanRefused (refusal refused.Absent 0))
  pub other_place : IsDue check_words no_files (St.PlanRefused (refusal refused.Absent 1)) → ⊥
  pub done : IsDue check_words no_files St.Done → ⊥
  pub usage : IsDue check_words no_files St.Usage → ⊥
  pub sink : IsDue check_words no_files St.SinkFault → ⊥
  pub no_data : (d : DataRefused) → IsDue check_words no_files (St.DataRefused d) → ⊥
  pub no_check : (name : Bytes) → IsDue check_words no_files (St.CheckFailed name) → ⊥

-- ---- words

-- without words Usage is due, and nothing else that files tell
pub record NoWords : Type 0 where
  pub usage : (files : Files) → IsDue [] files St.Usage
  pub done : (files : Files) → IsDue [] files St.Done → ⊥
  pub refused : (files : Files) (r : Refused) → IsDue [] files (St.PlanRefused r) → ⊥

abbrev pub run_words : List Bytes
run_words = codes "run" ∷ codes "p" ∷ []

-- `run` is a command that is not served
pub record RunIsUnserved : Type 0 where
  pub usage : (files : Files) → IsDue run_words files St.Usage
  pub refused : (files : Files) (r : Refused) → IsDue run_words files (St.PlanRefused r) → ⊥
  pub done : (files : Files) → IsDue run_words files St.Done → ⊥

abbrev pub gen_words : List Bytes
gen_words = codes "gen" ∷ codes "7" ∷ codes "0" ∷ []

-- `gen` is due to end well whatever the files are
pub record GenNeedsNothing : Type 0 where
  pub done : (files : Files) → IsDue gen_words files St.Done
  pub usage : (files : Files) → IsDue gen_words files St.Usage → ⊥
  pub good : (files : Files) → IsGood (C.Gen 7 0) files
  pub absent_is_bad : IsGood (C.Check (codes "p")) no_files → ⊥

-- ---- what may come first, and what may come at all

-- want of memory and a fault of the source may come before a refusal that is due, a fault of the sink may not
pub record CutsBefore : Type 0 where
  pub itself : IsDueOrCut St.Usage St.Usage
  pub memory : IsDueOrCut St.Usage St.NoMemory
  pub source : IsDueOrCut St.Usage St.SourceFault
  pub sink : IsDueOrCut St.Usage St.SinkFault → ⊥
  pub done : IsDueOrCut St.Usage St.Done → ⊥

-- only commands with a plan are refused for it, and only those that read data are refused for that
pub record MayEndSo : Type 0 where
  pub plain_data : (plan : Bytes) (d : DataRefused) → MayEnd (C.Plain plan) (St.DataRefused d)
  pub check_data : (plan : Bytes) (d : DataRefused) → MayEnd (C.Check plan) (St.DataRefused d) → ⊥
  pub check_plan : (plan : Bytes) (r : Refused) → MayEnd (C.Check plan) (St.PlanRefused r)
  pub gen_plan : (seed rows : ℕ) (r : Refused) → MayEnd (C.Gen seed rows) (St.PlanRefused r) → ⊥
  pub gen_source : (seed rows : ℕ) → MayEnd (C.Gen seed rows) St.SourceFault → ⊥
  pub explain_check : (plan : Bytes) (n : ℕ) (name : Bytes) → MayEnd (C.Explain plan n) (St.CheckFailed name) → ⊥
