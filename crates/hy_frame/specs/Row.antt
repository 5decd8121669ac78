-- A row is a list of fields. Its tuple has the ends of the fields, and then the fields.
use Rattle.std.specs.Prelude.{◌≡◌, ◌+◌, ◌*◌, ℕ, List, [], ◌∷◌, ◌++◌, length}
use Rattle.std.specs.List.{concat}
use Rattle.hy_frame.specs.Field.{IsField}
use Rattle.hy_frame.specs.Word.{word_bytes}

abbrev pub Fields : Type 0
Fields = List (List ℕ)

abbrev pub AllFields : Fields → Type 0
AllFields [] = Unit {0}
AllFields (field ∷ row) = IsField field × AllFields row

-- a row of this many fields
abbrev pub IsRow : ℕ → Fields → Type 0
IsRow arity row = (length row ≡ arity) × AllFields row

-- how many bytes a row's tuple has
abbrev pub row_size : Fields → ℕ
row_size row = 4 * length row + length (concat row)

-- where each field ends, the first of them beginning at `start`
abbrev pub field_ends : ℕ → Fields → List ℕ
field_ends start [] = []
field_ends start (field ∷ row) = word_bytes (start + length field) ++ field_ends (start + length field) row

-- the ends of the fields, counted from the first byte behind the ends, and the fields without gaps
abbrev pub tuple_bytes : Fields → List ℕ
tuple_bytes row = field_ends 0 row ++ concat row
