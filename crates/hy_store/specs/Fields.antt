-- A frame's fields are the fields of values, so its rows are rows of values.
use Rattle.std.specs.Prelude.{◌≡◌, ◌↔◌, ℕ, List, length, map}
use Rattle.std.specs.List.{AllByRecursion}
use Rattle.al_value.specs.Field.{field_bytes}
use Rattle.al_value.specs.Value.{IsValue}
use Rattle.al_value.specs.declared.value.Value.{Value}
use Rattle.hy_frame.specs.Field.{IsField}
use Rattle.hy_frame.specs.Row.{Fields, IsRow}

-- the fields of a row of values
abbrev pub fields_of : List Value → Fields
fields_of row = map field_bytes row

-- what a frame takes for a field is the field of a value, and the other way round
abbrev pub FieldsAreValues : Type 0
FieldsAreValues = (bytes : List ℕ) → IsField bytes ↔ ((v : Value) × IsValue v × (field_bytes v ≡ bytes))

-- what a frame takes for a row is the fields of a row of values, and the other way round
abbrev pub RowsAreValues : Type 0
RowsAreValues =
    (arity : ℕ) (fields : Fields)
    → IsRow arity fields ↔ ((row : List Value) × (length row ≡ arity) × AllByRecursion IsValue row × (fields_of row ≡ fields))

-- fields are those of one row of values
abbrev pub OneRow : Type 0
OneRow = (a b : List Value) → AllByRecursion IsValue a → AllByRecursion IsValue b → fields_of a ≡ fields_of b → a ≡ b
