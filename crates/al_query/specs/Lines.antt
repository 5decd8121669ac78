-- What a status tells a user: the exit status, and one line.
use Rattle.std.specs.Prelude.{ℕ, List, [], ◌∷◌, ◌++◌, codes, decimal}
use Rattle.al_plan.specs.declared.file.RefusedKind.{RefusedKind}
use Rattle.al_plan.specs.declared.file.RefusedKind.TheVariants as refused
use Rattle.al_plan.specs.declared.file.Refused.{Refused}
use Rattle.al_csv.specs.declared.refused.DataKind.{DataKind}
use Rattle.al_csv.specs.declared.refused.DataKind.TheVariants as kind
use Rattle.al_query.specs.declared.status.DataRefused.{DataRefused}
use Rattle.al_query.specs.declared.status.Status.{Status}
use Rattle.al_query.specs.declared.status.Status.TheVariants as St

abbrev pub code_of : Status → ℕ
code_of St.Done = 0
code_of St.Usage = 1
code_of (St.PlanRefused r) = 2
code_of (St.DataRefused d) = 3
code_of (St.CheckFailed name) = 4
code_of St.SourceFault = 5
code_of St.SinkFault = 6
code_of St.NoMemory = 8

abbrev pub refused_kind_name : RefusedKind → List ℕ
refused_kind_name refused.Absent = codes "Absent"
refused_kind_name refused.Utf8 = codes "Utf8"
refused_kind_name refused.Token = codes "Token"
refused_kind_name refused.Form = codes "Form"
refused_kind_name refused.Number = codes "Number"
refused_kind_name refused.TooDeep = codes "TooDeep"
refused_kind_name refused.TooLarge = codes "TooLarge"
refused_kind_name refused.UnknownDataset = codes "UnknownDataset"
refused_kind_name refused.WrongArity = codes "WrongArity"
refused_kind_name refused.NotInNested = codes "NotInNested"
refused_kind_name refused.UnionArity = codes "UnionArity"
refused_kind_name refused.TwiceMade = codes "TwiceMade"
refused_kind_name refused.NotLive = codes "NotLive"
refused_kind_name refused.TooWide = codes "TooWide"

abbrev pub data_kind_name : DataKind → List ℕ
data_kind_name kind.Absent = codes "Absent"
data_kind_name kind.TooLarge = codes "TooLarge"
data_kind_name kind.BadCount = codes "BadCount"
data_kind_name kind.BadInt = codes "BadInt"
data_kind_name kind.BadBool = codes "BadBool"
data_kind_name kind.BadUtf8 = codes "BadUtf8"
data_kind_name kind.TooLong = codes "TooLong"

abbrev pub plan_line : Refused → List ℕ
plan_line r = codes "plan refused: " ++ (refused_kind_name r.kind ++ (codes " at " ++ (decimal r.place ++ (10 ∷ []))))

abbrev pub place_line : List ℕ → List ℕ → List ℕ → List ℕ → List ℕ
place_line file kind number column = codes "data refused: " ++ (file ++ (codes ": " ++ (kind ++ (codes " record " ++ (number ++ (codes " column " ++ (column ++ (10 ∷ []))))))))

abbrev pub data_line : DataRefused → List ℕ
data_line d = place_line d.file (data_kind_name d.bad.kind) (decimal d.bad.number) (decimal d.bad.column)

abbrev pub check_line : List ℕ → List ℕ
check_line name = codes "check failed: " ++ (name ++ (10 ∷ []))

-- nothing where all is done
abbrev pub status_line : Status → List ℕ
status_line St.Done = []
status_line St.Usage = codes "usage: algebricks COMMAND ARGUMENTS [OPTIONS]" ++ (10 ∷ [])
status_line (St.PlanRefused r) = plan_line r
status_line (St.DataRefused d) = data_line d
status_line (St.CheckFailed name) = check_line name
status_line St.SourceFault = codes "source fault" ++ (10 ∷ [])
status_line St.SinkFault = codes "sink fault" ++ (10 ∷ [])
status_line St.NoMemory = codes "no memory" ++ (10 ∷ [])
