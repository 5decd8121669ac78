-- What the bytes of a data file hold: its rows, or its first bad record.
use Rattle.std.specs.Prelude.{ℕ, List, [], ◌∷◌, ◌==◌, ◌≡◌, ⊤, length, map, drop, zip, Result, Ok, Err, if◌then◌else◌}
use Rattle.std.specs.List.{enumerate_from}
use Rattle.csv.specs.Reading.{default_config, strip_bom}
use Rattle.csv.specs.Reading as reading
use Rattle.al_value.specs.declared.value.Value.{Value}
use Rattle.al_csv.specs.declared.decl.Column.{Column}
use Rattle.al_csv.specs.declared.refused.DataKind.{DataKind}
use Rattle.al_csv.specs.declared.refused.DataKind.TheVariants.{BadCount}
use Rattle.al_csv.specs.declared.refused.BadRecord.{BadRecord}
use Rattle.al_csv.specs.declared.refused.LoadRefused.{LoadRefused}
use Rattle.al_csv.specs.declared.refused.LoadRefused.TheVariants.{Bad, NoMemory}
use Rattle.al_csv.specs.Fields.{field_value}

-- a value in front of the others, if all are there; else the first error
abbrev pub then_all : {A E : Type 0} → Result A E → Result (List A) E → Result (List A) E
then_all (Err e) rest = Err e
then_all (Ok x) (Err e) = Err e
then_all (Ok x) (Ok xs) = Ok (x ∷ xs)

-- the values of results that are all Ok, or the first error
unfoldable pub all_ok : {A E : Type 0} → List (Result A E) → Result (List A) E
all_ok [] = Ok []
all_ok (r ∷ rs) = then_all r (all_ok rs)

-- what is wrong at a place of the file
abbrev pub bad_at : ℕ → ℕ → DataKind → BadRecord
bad_at number column kind = record { kind = kind; number = number; column = column }

-- what a field's reading is at its place
abbrev pub placed : ℕ → ℕ → Result Value DataKind → Result Value BadRecord
placed number column (Ok v) = Ok v
placed number column (Err kind) = Err (bad_at number column kind)

-- the value of one field, given with the number of its column and the column
abbrev pub cell_of : ℕ → ℕ × (Column × List ℕ) → Result Value BadRecord
cell_of number cell = placed number cell.0 (field_value cell.1.0.kind cell.1.1)

-- the values of one record, given with its number
abbrev pub row_of : List Column → ℕ × List (List ℕ) → Result (List Value) BadRecord
row_of columns numbered =
    if length numbered.1 == length columns then all_ok (map (cell_of numbered.0) (enumerate_from 1 (zip columns numbered.1)))
    else Err (bad_at numbered.0 0 BadCount)

-- the records of a file after its header
abbrev pub data_records : List ℕ → List (List (List ℕ))
data_records bytes = drop 1 (reading.records default_config (strip_bom bytes))

-- the rows of a file, or its first bad record
abbrev pub records : List Column → List ℕ → Result (List (List Value)) BadRecord
records columns bytes = all_ok (map (row_of columns) (enumerate_from 1 (data_records bytes)))

-- what a refusal tells of what was read
abbrev pub Tells : {A : Type 0} → Result A BadRecord → LoadRefused → Type 0
Tells read (Bad bad) = read ≡ Err bad
Tells read NoMemory = ⊤

-- a refusal for what is wrong at this place, if it tells anything
abbrev pub TellsPlace : DataKind → ℕ → ℕ → LoadRefused → Type 0
TellsPlace kind number column (Bad bad) = bad ≡ bad_at number column kind
TellsPlace kind number column NoMemory = ⊤
