-- Rows as drivers take and give them, and the values of a row's fields.
use Rattle.std.specs.Prelude.{◌≡◌, ◌-◌, ◌^◌, ℕ, nat_eq, nat_le, ℤ, pos, negsuc, true, false, if◌then◌else◌, List, [], ◌∷◌, map, length}
use Rattle.std.specs.List.{AllByRecursion}
use Rattle.byteorder.specs.Endian.{big_number}
use Rattle.al_value.specs.Value.{IsValue}
use Rattle.al_value.specs.declared.value.Value.{Value}
use Rattle.al_value.specs.declared.value.Value.TheVariants as V
use Rattle.hy_frame.specs.Row.{Fields, IsRow}
use Rattle.hy_store.specs.Fields.{fields_of}

-- the values of a row, in the order of its columns
abbrev pub Row : Type 0
Row = List Value

abbrev pub AreValues : Row → Type 0
AreValues = AllByRecursion IsValue

-- a row that is taken, with its input
abbrev pub Fed : Type 0
Fed = ℕ × Row

-- the int whose number in a field this is
abbrev pub lowered : ℕ → ℤ
lowered n = if nat_le (2 ^ 63) n then pos (n - 2 ^ 63) else negsuc (2 ^ 63 - 1 - n)

-- the value of a field, and NULL for what is no field
abbrev pub value_of : List ℕ → Value
value_of [] = V.Null
value_of (tag ∷ rest) =
    if nat_eq tag 1 then V.Bool false
    else if nat_eq tag 2 then V.Bool true
    else if nat_eq tag 3 then V.Int (lowered (big_number 8 rest))
    else if nat_eq tag 4 then V.Text rest
    else V.Null

unfoldable pub values_of : Fields → Row
values_of fields = map value_of fields

-- a row of values is found again in its fields
abbrev pub ValuesAgain : Type 0
ValuesAgain = (row : Row) → AreValues row → values_of (fields_of row) ≡ row

-- what is found in the fields of a row is values, and these are its fields
abbrev pub FieldsAgain : Type 0
FieldsAgain = (arity : ℕ) (fields : Fields) → IsRow arity fields → AreValues (values_of fields) × (fields_of (values_of fields) ≡ fields) × (length (values_of fields) ≡ arity)
