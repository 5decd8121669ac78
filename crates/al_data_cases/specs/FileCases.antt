-- What the fields of a record hold, and the rows of a few records.
use Rattle.std.specs.Prelude.{◌≡◌, pos, negsuc, ◌^◌, ◌-◌, ℕ, true, codes, List, [], ◌∷◌, map, Result, Ok, Err}
use Rattle.std.specs.List.{enumerate_from}
use Rattle.al_value.specs.declared.value.Value.{Value}
use Rattle.al_value.specs.declared.value.Value.TheVariants as V
use Rattle.al_csv.specs.declared.decl.Kind.{Kind}
use Rattle.al_csv.specs.declared.decl.Kind.TheVariants as K
use Rattle.al_csv.specs.declared.decl.Column.{Column}
use Rattle.al_csv.specs.declared.refused.DataKind.TheVariants.{BadInt, BadBool, BadCount}
use Rattle.al_csv.specs.declared.refused.BadRecord.{BadRecord}
use Rattle.al_csv.specs.Fields.{field_value}
use Rattle.al_csv.specs.Records.{all_ok, bad_at, row_of}

abbrev pub int : ℕ → Value
int n = V.Int (pos n)

-- ---- fields

pub record FieldsOfKinds : Type 0 where
  pub number : field_value K.Int (codes "42") ≡ Ok (int 42)
  pub with_plus : field_value K.Int (codes "+7") ≡ Ok (int 7)
  pub with_minus : field_value K.Int (codes "-07") ≡ Ok (V.Int (negsuc 6))
  pub no_number : field_value K.Int (codes "7 ") ≡ Err BadInt
  pub sign_alone : field_value K.Int (codes "-") ≡ Err BadInt
  pub greatest : field_value K.Int (codes "9223372036854775807") ≡ Ok (int (2 ^ 63 - 1))
  pub too_great : field_value K.Int (codes "9223372036854775808") ≡ Err BadInt
  pub least : field_value K.Int (codes "-9223372036854775808") ≡ Ok (V.Int (negsuc (2 ^ 63 - 1)))
  pub word : field_value K.Bool (codes "TRUE") ≡ Ok (V.Bool true)
  pub no_word : field_value K.Bool (codes "1") ≡ Err BadBool
  -- an empty field is NULL, no empty text
  pub empty : (kind : Kind) → field_value kind [] ≡ Ok V.Null

-- ---- rows

abbrev pub column : Kind → Column
column kind = record { name = codes "a"; kind = kind }

-- the rows of records behind the header, each with its fields
abbrev pub rows_of : List Column → List (List (List ℕ)) → Result (List (List Value)) BadRecord
rows_of columns records = all_ok (map (row_of columns) (enumerate_from 1 records))

pub record RowsOfRecords : Type 0 where
  pub none : rows_of (column K.Int ∷ []) [] ≡ Ok []
  pub two_rows : rows_of (column K.Int ∷ column K.Bool ∷ []) ((codes "1" ∷ codes "true" ∷ []) ∷ (codes "2" ∷ [] ∷ []) ∷ []) ≡ Ok ((int 1 ∷ V.Bool true ∷ []) ∷ (int 2 ∷ V.Null ∷ []) ∷ [])
  -- of two bad records the first is named, by its number and its column
  pub bad_field : rows_of (column K.Int ∷ column K.Int ∷ []) ((codes "1" ∷ codes "2" ∷ []) ∷ (codes "1" ∷ codes "y" ∷ []) ∷ (codes "z" ∷ codes "2" ∷ []) ∷ []) ≡ Err (bad_at 2 2 BadInt)
  -- of two bad fields the first
  pub first_field : rows_of (column K.Int ∷ column K.Bool ∷ []) ((codes "x" ∷ codes "y" ∷ []) ∷ []) ≡ Err (bad_at 1 1 BadInt)
  -- a record of another number of fields has no column to name
  pub bad_count : rows_of (column K.Int ∷ []) ((codes "x" ∷ codes "2" ∷ []) ∷ []) ≡ Err (bad_at 1 0 BadCount)
