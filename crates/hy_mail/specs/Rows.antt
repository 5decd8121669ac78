-- The rows of values that frames and parcels hold as fields.
use Rattle.std.specs.Prelude.{◌≡◌, ◌↔◌, ℕ, List, [], length, map, All}
use Rattle.al_value.specs.Field.{field_bytes}
use Rattle.al_value.specs.Value.{IsValue}
use Rattle.al_value.specs.declared.value.Value.{Value}
use Rattle.hy_frame.specs.Field.{IsField}
use Rattle.hy_frame.specs.FrameText.{AllRows}
use Rattle.hy_frame.specs.Row.{Fields, IsRow}
use Rattle.hy_mail.specs.declared.parcel.Parcel.{Parcel}
use Rattle.hy_mail.specs.declared.parcel.Parcel.TheVariants.{Frame}

-- the fields of a row of values
abbrev pub fields_of : List Value → Fields
fields_of row = map field_bytes row

-- the rows that a parcel brings
abbrev pub rows_in : Parcel → List Fields
rows_in (Frame f) = f.rows
rows_in _ = []

-- the rows of fields are these rows of values
pub record AreRowsOf (rows : List Fields) (seen : List (List Value)) : Type 0 where
  pub fields : rows ≡ map fields_of seen
  pub values : All (All IsValue) seen

-- the parcel is seen with these rows of values
abbrev pub IsSeenWith : Parcel → List (List Value) → Type 0
IsSeenWith p seen = AreRowsOf (rows_in p) seen

-- ---- laws

-- bytes are a frame's field exactly where they are the field of a value
abbrev pub FieldsAreValues : Type 0
FieldsAreValues = (bytes : List ℕ) → IsField bytes ↔ ((v : Value) × IsValue v × (field_bytes v ≡ bytes))

-- and of no two
abbrev pub FieldsTellValues : Type 0
FieldsTellValues = (v w : Value) → IsValue v → IsValue w → field_bytes v ≡ field_bytes w → v ≡ w

-- each row of a frame is a row of as many values
abbrev pub RowsAreValues : Type 0
RowsAreValues = (arity : ℕ) (row : Fields) → IsRow arity row → (values : List Value) × (length values ≡ arity) × All IsValue values × (fields_of values ≡ row)

abbrev pub RowsTellValues : Type 0
RowsTellValues = (a b : List Value) → All IsValue a → All IsValue b → fields_of a ≡ fields_of b → a ≡ b

-- a parcel whose rows are rows of fields is seen with rows of as many values
abbrev pub ParcelsAreSeen : Type 0
ParcelsAreSeen = (arity : ℕ) (p : Parcel) → AllRows arity (rows_in p) → (seen : List (List Value)) × IsSeenWith p seen × All (λ row. length row ≡ arity) seen

-- and with no others
abbrev pub ParcelsAreSeenOnce : Type 0
ParcelsAreSeenOnce = (p : Parcel) (a b : List (List Value)) → IsSeenWith p a → IsSeenWith p b → a ≡ b
