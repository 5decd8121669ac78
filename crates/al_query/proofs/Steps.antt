-- What each step of a command tells of the whole.
use Rattle.std.proofs.Common.{◌≡◌, ℕ, ◌≤◌, ◌<◌, List, [], ◌∷◌, ◌++◌, length, map, Bool, Option, None, Some, Result, Ok, Err, true, false, refl, ap, sym, subst, ◌∙◌, inl, inr, arith}
use Rattle.std.specs.Prelude.{nat_le, not, if◌then◌else◌, ◌⊎◌, IfOk, IfErr}
use Rattle.al_value.specs.declared.value.Value.{Value}
use Rattle.al_value.specs.Outside.{Told}
use Rattle.al_io.specs.Outside.{Bytes, Files, GainsPrefix}
use Rattle.al_io.specs.FileRead.{TellsFile}
use Rattle.al_io.specs.declared.source.FileRead.TheVariants as found
use Rattle.al_csv.specs.Generator.{generated}
use Rattle.al_csv.specs.Records.{records}
use Rattle.al_csv.specs.declared.decl.Decl.{Decl}
use Rattle.al_csv.specs.declared.refused.BadRecord.{BadRecord}
use Rattle.al_csv.specs.declared.refused.DataKind.TheVariants as kind
use Rattle.al_csv.specs.OutText.{out_text}
use Rattle.al_value.specs.declared.settings.Settings.{Settings}
use Rattle.al_words.specs.declared.command.Command.{Command}
use Rattle.al_words.specs.declared.command.Command.TheVariants as C
use Rattle.al_words.specs.Words.{IsCommand, IsSetting}
use Rattle.al_plan.specs.declared.file.PlanFile.{PlanFile}
use Rattle.al_plan.specs.declared.file.Refused.{Refused}
use Rattle.al_plan.specs.declared.file.RefusedKind.TheVariants as refused
use Rattle.al_plan.specs.Grammar.{IsRoot}
use Rattle.al_plan.specs.declared.plan.Plan.{Plan}
use Rattle.al_plan.specs.Refines.{Fit, Refines}
use Rattle.al_plan.specs.Allows.{live}
use Rattle.al_plain.specs.declared.plan.Data.{Data}
use Rattle.al_plain.specs.Gives.{sets_of, Gives}
use Rattle.al_print.specs.Canonical.{file_with, plan_text}
use Rattle.al_print.specs.Explanation.{explanation}
use Rattle.al_rule.specs.declared.trace.TraceStep.{TraceStep}
use Rattle.al_phys.specs.declared.phys.Phys.{Phys}
use Rattle.hy_job.specs.declared.job.Job.{Job}
use Rattle.hy_job.specs.declared.job.Stage.{Stage}
use Rattle.hy_job.specs.Stages.{StageOf}
use Rattle.al_value.specs.declared.fault.NoMemory.{NoMemory}
use Rattle.al_plan.specs.Accept.{IsAccepted, accept_refusal}
use Rattle.al_read.specs.Reads.{Reads, refusal}
use Rattle.al_read.specs.Reads as unreads
use Rattle.al_query.specs.declared.status.DataRefused.{DataRefused}
use Rattle.al_query.specs.declared.status.Status.{Status}
use Rattle.al_query.specs.declared.status.Status.TheVariants as St
use Rattle.al_query.specs.declared.data.Loaded.{Loaded}
use Rattle.al_query.specs.Served.{IsPlan, IsPlanRefused, absent, unread, unaccepted, file_rows, of_file, room_behind, size_of, loaded, IsServed, IsPrinted, IsCompiled, IsExplained, IsText, Writes, is_served, plan_of, query_of, IsAsked, IsDue}
use Rattle.al_query.specs.Tells.{IsStop, TellsGenerated, TellsPlan, TellsSet, TellsBytes, TellsData, TellsEvaluated, Refuses, TellsAnswer, TellsPrinted, TellsExplained, TellsMade, Explains, IsInRange, TellsText, is_idle, is_usage}
use Rattle.al_query.specs.Answer.{IsAnswer}
use Rattle.al_query.proofs.Dues.{told_map, told_both}

-- ---- plan files

pub told_plan : (files : Option Files) (name bytes : Bytes) (limit : ℕ) (r : Result PlanFile Status) → Told files (λ fs. TellsFile (fs name) limit (found.Bytes bytes)) → TellsPlan (Some bytes) r → Told files (λ fs. TellsPlan (fs name) r)
told_plan files name bytes limit r h k =
    told_map files (λ fs. TellsFile (fs name) limit (found.Bytes bytes)) (λ fs. TellsPlan (fs name) r) h (λ fs there. subst (λ (o : Option Bytes). TellsPlan o r) (sym there.0) k)

pub told_absent : (files : Option Files) (name : Bytes) (limit : ℕ) → Told files (λ fs. TellsFile (fs name) limit found.Absent) → Told files (λ fs. TellsPlan (fs name) (Err (St.PlanRefused (refusal refused.Absent 0))))
told_absent files name limit h = told_map files (λ fs. TellsFile (fs name) limit found.Absent) (λ fs. IsPlanRefused (fs name) (refusal refused.Absent 0)) h (λ fs none. absent none refl)

pub told_large : (files : Option Files) (name : Bytes) → Told files (λ fs. TellsFile (fs name) 1048576 found.TooLarge) → Told files (λ fs. TellsPlan (fs name) (Err (St.PlanRefused (refusal refused.TooLarge 1048576))))
told_large files name h =
    told_map files (λ fs. TellsFile (fs name) 1048576 found.TooLarge) (λ fs. IsPlanRefused (fs name) (refusal refused.TooLarge 1048576)) h (λ fs large. unread large.0 large.1 (unreads.too_large large.2 refl))

-- ---- data files

at_most : (n m : ℕ) → n ≤ m → nat_le n m ≡ true
at_most n m h = grind arith

more : (n m : ℕ) → m < n → nat_le n m ≡ false
more n m h = grind arith

rows_within : (before : ℕ) (d : Decl) (bytes : Bytes) → length bytes ≤ room_behind before → file_rows before d (Some bytes) ≡ records d.columns bytes
rows_within before d bytes h = ap (λ (b : Bool). if b then records d.columns bytes else Err (of_file kind.TooLarge)) (at_most (length bytes) (room_behind before) h)

rows_past : (before : ℕ) (d : Decl) (bytes : Bytes) → room_behind before < length bytes → file_rows before d (Some bytes) ≡ Err (of_file kind.TooLarge)
rows_past before d bytes h = ap (λ (b : Bool). if b then records d.columns bytes else Err (of_file kind.TooLarge)) (more (length bytes) (room_behind before) h)

set_within : (before : ℕ) (d : Decl) (bytes : Bytes) (r : Result Loaded Status) → length bytes ≤ room_behind before → TellsBytes d bytes r → TellsSet before d (Some bytes) r
set_within before d bytes (Ok l) few (read, name, size) = (rows_within before d bytes few ∙ read, name, size)
set_within before d bytes (Err (St.DataRefused r)) few (file, bad) = (file, rows_within before d bytes few ∙ bad)
set_within before d bytes (Err St.NoMemory) few h = tt
set_within before d bytes (Err St.SourceFault) few h = tt
set_within before d bytes (Err St.Done) few h = h
set_within before d bytes (Err St.Usage) few h = h
set_within before d bytes (Err (St.PlanRefused r)) few h = h
set_within before d bytes (Err (St.CheckFailed own)) few h = h
set_within before d bytes (Err St.SinkFault) few h = h

pub told_set : (files : Option Files) (before : ℕ) (d : Decl) (name bytes : Bytes) (r : Result Loaded Status) → name ≡ d.file → Told files (λ fs. TellsFile (fs name) (room_behind before) (found.Bytes bytes)) → TellsBytes d bytes r
    → Told files (λ fs. TellsSet before d (fs d.file) r)
told_set files before d name bytes r same h k =
    told_map files (λ fs. TellsFile (fs name) (room_behind before) (found.Bytes bytes)) (λ fs. TellsSet before d (fs d.file) r) h
    (λ fs there. subst (λ (n : Bytes). TellsSet before d (fs n) r) same (subst (λ (o : Option Bytes). TellsSet before d o r) (sym there.0) (set_within before d bytes r there.1 k)))

set_refused : (before : ℕ) (d : Decl) (file : Option Bytes) (bad : BadRecord) (status : Status) → file_rows before d file ≡ Err bad → Refuses d bad status → TellsSet before d file (Err status)
set_refused before d file bad (St.DataRefused r) e (named, is) = (named, e ∙ ap Err (sym is))
set_refused before d file bad St.NoMemory e h = tt
set_refused before d file bad St.SourceFault e h = tt
set_refused before d file bad St.Done e h = h
set_refused before d file bad St.Usage e h = h
set_refused before d file bad (St.PlanRefused r) e h = h
set_refused before d file bad (St.CheckFailed own) e h = h
set_refused before d file bad St.SinkFault e h = h

pub told_set_absent : (files : Option Files) (before limit : ℕ) (d : Decl) (name : Bytes) (status : Status) → name ≡ d.file → Told files (λ fs. TellsFile (fs name) limit found.Absent) → Refuses d (of_file kind.Absent) status
    → Told files (λ fs. TellsSet before d (fs d.file) (Err status))
told_set_absent files before limit d name status same h k =
    told_map files (λ fs. TellsFile (fs name) limit found.Absent) (λ fs. TellsSet before d (fs d.file) (Err status)) h
    (λ fs none. subst (λ (n : Bytes). TellsSet before d (fs n) (Err status)) same (subst (λ (o : Option Bytes). TellsSet before d o (Err status)) (sym none) (set_refused before d None (of_file kind.Absent) status refl k)))

pub told_set_large : (files : Option Files) (before : ℕ) (d : Decl) (name : Bytes) (status : Status) → name ≡ d.file → Told files (λ fs. TellsFile (fs name) (room_behind before) found.TooLarge) → Refuses d (of_file kind.TooLarge) status
    → Told files (λ fs. TellsSet before d (fs d.file) (Err status))
told_set_large files before d name status same h k =
    told_map files (λ fs. TellsFile (fs name) (room_behind before) found.TooLarge) (λ fs. TellsSet before d (fs d.file) (Err status)) h
    (λ fs large. subst (λ (n : Bytes). TellsSet before d (fs n) (Err status)) same
    (subst (λ (o : Option Bytes). TellsSet before d o (Err status)) (sym large.1) (set_refused before d (Some large.0) (of_file kind.TooLarge) status (rows_past before d large.0 large.2) k)))

-- ---- answers

plan_stopped : (fs : Files) (name : Bytes) (status : Status) → TellsPlan (fs name) (Err status) → TellsAnswer fs name (Err status)
plan_stopped fs name (St.PlanRefused r) h = h
plan_stopped fs name St.NoMemory h = tt
plan_stopped fs name St.SourceFault h = tt
plan_stopped fs name St.Done h = h
plan_stopped fs name St.Usage h = h
plan_stopped fs name (St.DataRefused d) h = absurd h
plan_stopped fs name (St.CheckFailed own) h = absurd h
plan_stopped fs name St.SinkFault h = h

pub told_plan_stopped : (files : Option Files) (name : Bytes) (status : Status) → Told files (λ fs. TellsPlan (fs name) (Err status)) → Told files (λ fs. TellsAnswer fs name (Err status))
told_plan_stopped files name status h = told_map files (λ fs. TellsPlan (fs name) (Err status)) (λ fs. TellsAnswer fs name (Err status)) h (λ fs k. plan_stopped fs name status k)

data_stopped : (fs : Files) (name : Bytes) (f : PlanFile) (status : Status) → IsPlan (fs name) f → TellsData fs f.datasets (Err status) → TellsAnswer fs name (Err status)
data_stopped fs name f (St.DataRefused d) plan h = (f, plan, h)
data_stopped fs name f St.SourceFault plan h = tt
data_stopped fs name f St.NoMemory plan h = tt
data_stopped fs name f St.Done plan h = h
data_stopped fs name f St.Usage plan h = h
data_stopped fs name f (St.PlanRefused r) plan h = absurd h
data_stopped fs name f (St.CheckFailed own) plan h = absurd h
data_stopped fs name f St.SinkFault plan h = h

-- the data of a good plan was refused; the files stayed as they were
pub told_data_stopped : (files later : Option Files) (name : Bytes) (f g : PlanFile) (status : Status) → later ≡ files → f ≡ g → Told files (λ fs. TellsPlan (fs name) (Ok f)) → Told later (λ fs. TellsData fs g.datasets (Err status))
    → Told files (λ fs. TellsAnswer fs name (Err status))
told_data_stopped files later name f g status same is h k =
    told_both files (λ fs. TellsPlan (fs name) (Ok f)) (λ fs. TellsData fs g.datasets (Err status)) (λ fs. TellsAnswer fs name (Err status)) h
    (subst (λ (o : Option Files). Told o (λ fs. TellsData fs g.datasets (Err status))) same k) (λ fs plan told. data_stopped fs name g status (subst (IsPlan (fs name)) is plan) told)

evaluated : (fs : Files) (name : Bytes) (f : PlanFile) (sets : List Data) (r : Result Bytes Status) → IsPlan (fs name) f → loaded fs 0 f.datasets ≡ Ok sets → TellsEvaluated f sets r → TellsAnswer fs name r
evaluated fs name f sets (Ok text) plan read answer = record { file = f; plan = plan; sets = sets; data_read = read; answer = answer }
evaluated fs name f sets (Err (St.CheckFailed own)) plan read fault = (f, sets, plan, read, fault)
evaluated fs name f sets (Err St.NoMemory) plan read h = tt
evaluated fs name f sets (Err St.SourceFault) plan read h = tt
evaluated fs name f sets (Err St.Done) plan read h = h
evaluated fs name f sets (Err St.Usage) plan read h = h
evaluated fs name f sets (Err (St.PlanRefused r)) plan read h = absurd h
evaluated fs name f sets (Err (St.DataRefused d)) plan read h = absurd h
evaluated fs name f sets (Err St.SinkFault) plan read h = h

-- a good plan over its data
pub told_evaluated : (files later : Option Files) (name : Bytes) (f g : PlanFile) (sets : List Data) (r : Result Bytes Status) → later ≡ files → f ≡ g → Told files (λ fs. TellsPlan (fs name) (Ok f)) → Told later (λ fs. TellsData fs g.datasets (Ok sets))
    → TellsEvaluated g sets r → Told files (λ fs. TellsAnswer fs name r)
told_evaluated files later name f g sets r same is h k e =
    told_both files (λ fs. TellsPlan (fs name) (Ok f)) (λ fs. TellsData fs g.datasets (Ok sets)) (λ fs. TellsAnswer fs name r) h
    (subst (λ (o : Option Files). Told o (λ fs. TellsData fs g.datasets (Ok sets))) same k) (λ fs plan read. evaluated fs name g sets r (subst (IsPlan (fs name)) is plan) read e)

-- rows that a plan gives, and their text
pub answered : (f : PlanFile) (sets : List Data) (rows : List (List Value)) (text : Bytes) → Gives f.root (sets_of sets) rows → text ≡ out_text (map (λ v. v.name) (live f.root [])) rows → IsAnswer f.root (sets_of sets) text
answered f sets rows text given is = record { rows = rows; wide = given.wide; allowed = given.allowed; is = is }

-- ---- printing

print_stopped : (fs : Files) (name : Bytes) (status : Status) → TellsPlan (fs name) (Err status) → TellsPrinted fs name (Err status)
print_stopped fs name (St.PlanRefused r) h = h
print_stopped fs name St.NoMemory h = tt
print_stopped fs name St.SourceFault h = tt
print_stopped fs name St.Done h = h
print_stopped fs name St.Usage h = h
print_stopped fs name (St.DataRefused d) h = h
print_stopped fs name (St.CheckFailed own) h = h
print_stopped fs name St.SinkFault h = h

pub told_print_stopped : (files : Option Files) (name : Bytes) (status : Status) → Told files (λ fs. TellsPlan (fs name) (Err status)) → Told files (λ fs. TellsPrinted fs name (Err status))
told_print_stopped files name status h = told_map files (λ fs. TellsPlan (fs name) (Err status)) (λ fs. TellsPrinted fs name (Err status)) h (λ fs k. print_stopped fs name status k)

pub told_printed : (files : Option Files) (name text : Bytes) (f g : PlanFile) → f ≡ g → Told files (λ fs. TellsPlan (fs name) (Ok f)) → text ≡ plan_text g → Told files (λ fs. TellsPrinted fs name (Ok text))
told_printed files name text f g is h e = told_map files (λ fs. TellsPlan (fs name) (Ok f)) (λ fs. TellsPrinted fs name (Ok text)) h (λ fs plan. (g, subst (IsPlan (fs name)) is plan, e))

pub told_explanation : (files : Option Files) (name text : Bytes) (partitions : ℕ) (f g : PlanFile) → f ≡ g → Told files (λ fs. TellsPlan (fs name) (Ok f)) → Explains g partitions text → Told files (λ fs. TellsExplained fs name partitions (Ok text))
told_explanation files name text partitions f g is h e =
    told_map files (λ fs. TellsPlan (fs name) (Ok f)) (λ fs. TellsExplained fs name partitions (Ok text)) h
    (λ fs plan. record { file = g; plan = subst (IsPlan (fs name)) is plan; steps = e.steps; optimised = e.optimised; phys = e.phys; job = e.job; compiled = e.compiled; stages = e.stages; in_stages = e.in_stages; parts = e.parts })

pub explained_by : (f : PlanFile) (n : ℕ) (steps : List TraceStep) (q : Plan) (ph : Phys) (job : Job) (ss passed : List Stage) (r : Result Bytes NoMemory) → IsCompiled f.root n steps q ph job → StageOf job ss → passed ≡ ss
    → IfOk r (λ text. text ≡ explanation steps (file_with f q) ph job passed) → IfOk r (λ text. Explains f n text)
explained_by f n steps q ph job ss passed (Ok text) compiled in_stages is parts = record { steps = steps; optimised = q; phys = ph; job = job; compiled = compiled; stages = passed; in_stages = subst (StageOf job) (sym is) in_stages; parts = parts }
explained_by f n steps q ph job ss passed (Err e) compiled in_stages is h = h

-- ---- numbers in their ranges

setting_range : (least most default : ℕ) → least ≤ default → default ≤ most → (text : Option Bytes) (n : ℕ) → IsSetting least most default text n → (least ≤ n) × (n ≤ most)
setting_range least most default low high None n h = (subst (λ (m : ℕ). least ≤ m) (sym h) low, subst (λ (m : ℕ). m ≤ most) (sym h) high)
setting_range least most default low high (Some text) n h = (h.3, h.4)

pub in_range : (words : List Bytes) (c : Command) → IsCommand words c → IsInRange c
in_range words (C.Explain plan partitions) h = setting_range 1 16 1 (omega arith) (omega arith) _ partitions h.asks.2
in_range words (C.Check plan) h = tt
in_range words (C.Plain plan) h = tt
in_range words (C.Step plan settings schedule) h = tt
in_range words (C.Run plan settings workers) h = tt
in_range words (C.Gen seed rows) h = tt
in_range words (C.Drill seed rows plan settings) h = tt
in_range words (C.Frames plan dataset frame_size) h = tt

-- ---- commands

-- a text that is made from a plan file alone is what a command asks for
made : (c : Command) (plan : Bytes) (fs : Files) (IsSuch : Bytes → Type 0) (r : Result Bytes Status) → plan_of c ≡ Some plan → ((text : Bytes) → IsSuch text → IsText c fs text) → TellsMade IsSuch (fs plan) r → TellsText c fs r
made c plan fs IsSuch (Ok text) of such h = such text h
made c plan fs IsSuch (Err (St.PlanRefused r)) of such h = (plan, of, h)
made c plan fs IsSuch (Err St.SourceFault) of such h = tt
made c plan fs IsSuch (Err St.NoMemory) of such h = tt
made c plan fs IsSuch (Err St.Done) of such h = absurd h
made c plan fs IsSuch (Err St.Usage) of such h = absurd h
made c plan fs IsSuch (Err (St.DataRefused d)) of such h = absurd h
made c plan fs IsSuch (Err (St.CheckFailed own)) of such h = absurd h
made c plan fs IsSuch (Err St.SinkFault) of such h = absurd h

queried : (c : Command) (plan : Bytes) (fs : Files) (r : Result Bytes Status) → query_of c ≡ Some plan → plan_of c ≡ Some plan → ((text : Bytes) → IsServed fs plan text → IsText c fs text) → TellsAnswer fs plan r → TellsText c fs r
queried c plan fs (Ok text) q p served h = served text h
queried c plan fs (Err (St.PlanRefused r)) q p served h = (plan, p, h)
queried c plan fs (Err (St.DataRefused d)) q p served h = (plan, q, h)
queried c plan fs (Err (St.CheckFailed own)) q p served h = (plan, q, h)
queried c plan fs (Err St.SourceFault) q p served h = tt
queried c plan fs (Err St.NoMemory) q p served h = tt
queried c plan fs (Err St.Done) q p served h = absurd h
queried c plan fs (Err St.Usage) q p served h = absurd h
queried c plan fs (Err St.SinkFault) q p served h = absurd h

pub told_checked : (files : Option Files) (c : Command) (plan name : Bytes) (r : Result Bytes Status) → c ≡ C.Check plan → name ≡ plan → Told files (λ fs. TellsPrinted fs name r) → Told files (λ fs. TellsText c fs r)
told_checked files c plan name r is same h =
    told_map files (λ fs. TellsPrinted fs name r) (λ fs. TellsText c fs r) h (λ fs k. subst (λ (x : Command). TellsText x fs r) (sym is) (made (C.Check plan) plan fs (IsPrinted fs plan) r refl (λ text h. h) (subst (λ (n : Bytes). TellsPrinted fs n r) same k)))

pub told_explained : (files : Option Files) (c : Command) (plan name : Bytes) (partitions : ℕ) (r : Result Bytes Status) → c ≡ C.Explain plan partitions → name ≡ plan → Told files (λ fs. TellsExplained fs name partitions r) → Told files (λ fs. TellsText c fs r)
told_explained files c plan name partitions r is same h =
    told_map files (λ fs. TellsExplained fs name partitions r) (λ fs. TellsText c fs r) h
    (λ fs k. subst (λ (x : Command). TellsText x fs r) (sym is) (made (C.Explain plan partitions) plan fs (IsExplained fs plan partitions) r refl (λ text h. h) (subst (λ (n : Bytes). TellsExplained fs n partitions r) same k)))

pub told_plain : (files : Option Files) (c : Command) (plan name : Bytes) (r : Result Bytes Status) → c ≡ C.Plain plan → name ≡ plan → Told files (λ fs. TellsAnswer fs name r) → Told files (λ fs. TellsText c fs r)
told_plain files c plan name r is same h =
    told_map files (λ fs. TellsAnswer fs name r) (λ fs. TellsText c fs r) h
    (λ fs k. subst (λ (x : Command). TellsText x fs r) (sym is) (queried (C.Plain plan) plan fs r refl refl (λ text served. served) (subst (λ (n : Bytes). TellsAnswer fs n r) same k)))

pub told_step : (files : Option Files) (c : Command) (plan name : Bytes) (settings : Settings) (schedule : List (List ℕ)) (r : Result Bytes Status) → c ≡ C.Step plan settings schedule → name ≡ plan → Told files (λ fs. TellsAnswer fs name r) → Told files (λ fs. TellsText c fs r)
told_step files c plan name settings schedule r is same h =
    told_map files (λ fs. TellsAnswer fs name r) (λ fs. TellsText c fs r) h
    (λ fs k. subst (λ (x : Command). TellsText x fs r) (sym is) (queried (C.Step plan settings schedule) plan fs r refl refl (λ text served. served) (subst (λ (n : Bytes). TellsAnswer fs n r) same k)))

-- ---- the words

due : (words : List Bytes) (fs : Files) (c : Command) (status : Status) → ((d : Command) → IsCommand words d → d ≡ c) → IsCommand words c → IsAsked c fs status → IsDue words fs status
due words fs c St.Done one is h = (c, is, h)
due words fs c St.Usage one is h = λ d also. subst (λ (x : Command). is_served x ≡ false) (sym (one d also)) h
due words fs c (St.PlanRefused r) one is h = (c, is, h)
due words fs c (St.DataRefused d) one is h = (c, is, h)
due words fs c (St.CheckFailed own) one is h = (c, is, h)
due words fs c St.SourceFault one is h = tt
due words fs c St.SinkFault one is h = (c, is, h)
due words fs c St.NoMemory one is h = tt

pub told_due_of : (files : Option Files) (words : List Bytes) (c : Command) (status : Status) → ((a b : Command) → IsCommand words a → IsCommand words b → a ≡ b) → IsCommand words c → Told files (λ fs. TellsText c fs (Err status)) → Told files (λ fs. IsDue words fs status)
told_due_of files words c status one is h = told_map files (λ fs. TellsText c fs (Err status)) (λ fs. IsDue words fs status) h (λ fs k. due words fs c status (λ d also. one d c also is) is k)

pub told_any : {X : Type 0} (o : Option X) (P : X → Type 0) → ((x : X) → P x) → Told o P
told_any None P f = tt
told_any (Some x) P f = f x

-- words that ask for nothing
pub told_usage : (files : Option Files) (words : List Bytes) → ((c : Command) → IsCommand words c → ⊥) → Told files (λ fs. IsDue words fs St.Usage)
told_usage files words none = told_any files (λ fs. IsDue words fs St.Usage) (λ fs c is. absurd (none c is))

-- what a command wrote, where its text was made
pub told_wrote : (files : Option Files) (written : Option Bytes) (words : List Bytes) (c : Command) (text : Bytes) (P : Bytes → Bytes → Type 0) → IsCommand words c → Told files (λ fs. TellsText c fs (Ok text)) → Told written (λ was. P was text)
    → Told files (λ fs. Told written (λ was. (d : Command) × (bytes : Bytes) × IsCommand words d × IsText d fs bytes × P was bytes))
told_wrote files written words c text P is h k =
    told_map files (λ fs. TellsText c fs (Ok text)) (λ fs. Told written (λ was. (d : Command) × (bytes : Bytes) × IsCommand words d × IsText d fs bytes × P was bytes)) h
    (λ fs made. told_map written (λ was. P was text) (λ was. (d : Command) × (bytes : Bytes) × IsCommand words d × IsText d fs bytes × P was bytes) k (λ was put. (c, text, is, made, put)))

unserved_by : (b : Bool) → true ≡ not b → b ≡ false
unserved_by true h = cc
unserved_by false h = refl

pub unserved : (c : Command) (status : Status) → is_usage {T = Bytes} (Err status) ≡ not (is_served c) → status ≡ St.Usage → is_served c ≡ false
unserved c status h e = unserved_by (is_served c) (ap (λ (s : Status). is_usage {T = Bytes} (Err s)) (sym e) ∙ h)

-- words whose command is not served have no other
pub usage_of : (words : List Bytes) (c : Command) (status : Status) → ((words : List Bytes) (a b : Command) → IsCommand words a → IsCommand words b → a ≡ b) → IsCommand words c → is_usage {T = Bytes} (Err status) ≡ not (is_served c)
    → status ≡ St.Usage → (d : Command) → IsCommand words d → is_served d ≡ false
usage_of words c status one is h e d also = subst (λ (x : Command). is_served x ≡ false) (one words c d is also) (unserved c status h e)

idle_unserved : (c : Command) → is_served c ≡ false → is_idle c ≡ true
idle_unserved (C.Check plan) h = cc
idle_unserved (C.Explain plan partitions) h = cc
idle_unserved (C.Plain plan) h = cc
idle_unserved (C.Step plan settings schedule) h = cc
idle_unserved (C.Run plan settings workers) h = refl
idle_unserved (C.Gen seed rows) h = refl
idle_unserved (C.Drill seed rows plan settings) h = refl
idle_unserved (C.Frames plan dataset frame_size) h = refl

-- a command that is not served, or generates, left the source
pub idle_of : (words : List Bytes) (c : Command) (status : Status) (Same : Type 0) → ((words : List Bytes) (a b : Command) → IsCommand words a → IsCommand words b → a ≡ b) → IsCommand words c → (status ≡ St.Usage → is_served c ≡ false) → (is_idle c ≡ true → Same)
    → (seed rows : ℕ) → (status ≡ St.Usage) ⊎ IsCommand words (C.Gen seed rows) → Same
idle_of words c status Same one is unserved same seed rows (inl e) = same (idle_unserved c (unserved e))
idle_of words c status Same one is unserved same seed rows (inr gen) = same (ap is_idle (one words c (C.Gen seed rows) is gen))

-- ---- without a source that tells

generated_text : (c : Command) (text : Bytes) (seed rows : ℕ) → c ≡ C.Gen seed rows → TellsGenerated c (Ok text) → text ≡ generated seed rows
generated_text c text seed rows is h = subst (λ (x : Command). TellsGenerated x (Ok text)) is h

pub generated_stop : (c : Command) (s : Status) (seed rows : ℕ) (text : Bytes) (old : Option Bytes) → c ≡ C.Gen seed rows → TellsGenerated c (Err s) → Writes text old old s
generated_stop c s seed rows text old is h =
    let end : s ≡ St.NoMemory = subst (λ (x : Command). TellsGenerated x (Err s)) is h in
    subst (λ (x : Status). Writes text old old x) (sym end) refl

pub generated_done : (c : Command) (text : Bytes) (seed rows : ℕ) (old now : Option Bytes) → c ≡ C.Gen seed rows → TellsGenerated c (Ok text) → Told old (λ was. now ≡ Some (was ++ text)) → Told old (λ was. now ≡ Some (was ++ generated seed rows))
generated_done c text seed rows old now is h k = subst (λ (t : Bytes). Told old (λ was. now ≡ Some (was ++ t))) (generated_text c text seed rows is h) k

pub generated_part : (c : Command) (text : Bytes) (seed rows : ℕ) (old now : Option Bytes) → c ≡ C.Gen seed rows → TellsGenerated c (Ok text) → Told old (λ was. GainsPrefix was text now) → Told old (λ was. GainsPrefix was (generated seed rows) now)
generated_part c text seed rows old now is h k = subst (λ (t : Bytes). Told old (λ was. GainsPrefix was t now)) (generated_text c text seed rows is h) k
