-- Fields are ordered as their values are.
use Rattle.std.proofs.Common.{◌≡◌, ℕ, ◌<◌, ◌≤◌, List, [], ◌∷◌, length, get_or, refl, sym, ap, subst, ◌∙◌, inl, arith}
use Rattle.std.specs.declared.cmp.Ordering.{Ordering}
use Rattle.al_value.specs.Field.{field_bytes}
use Rattle.al_value.specs.Value.{IsValue, value_cmp}
use Rattle.al_value.specs.declared.value.Value.{Value}
use Rattle.al_value.specs.declared.value.Value.TheVariants as V
use Rattle.hy_frame.specs.Field.{IsField}
use Rattle.hy_frame.specs.Row.{Fields}
use Rattle.hy_store.proofs.FieldLaws.{value_of_field}
use Rattle.hy_driver.specs.Rows.{value_of, values_of}
use Rattle.hy_job.specs.Columns.{column}
use Rattle.hy_rows.proofs.RowLaws.{value_found, column_pushed, null_pushed}

-- what a field holds is a value, and the field is its own
held : (field : List ℕ) → IsField field → IsValue (value_of field) × (field ≡ field_bytes (value_of field))
held field is =
    let found = value_of_field field is in
    let same : found.0 ≡ value_of field = value_found found.0 field found.1 found.2 in
    (subst IsValue same found.1, sym found.2 ∙ ap field_bytes same)

pub fields_order : (a b : List ℕ) (order : Ordering) → IsField a → IsField b
    → ((v w : Value) → IsValue v → IsValue w → a ≡ field_bytes v → b ≡ field_bytes w → order ≡ value_cmp v w)
    → order ≡ value_cmp (value_of a) (value_of b)
fields_order a b order is_a is_b by =
    let of_a = held a is_a in
    let of_b = held b is_b in
    by (value_of a) (value_of b) of_a.0 of_b.0 of_a.1 of_b.1

one : (v w : Value) → v ∷ [] ≡ w ∷ [] → v ≡ w
one v w e = cc

pub column_found : (row : Fields) (j : ℕ) (field : List ℕ) → j < length row → field ≡ get_or row j [] → value_of field ≡ column (values_of row) j
column_found row j field low is = one (value_of field) (column (values_of row) j) (column_pushed row j field [] (value_of field ∷ []) low is refl)

pub no_column : (row : Fields) (j : ℕ) → length row ≤ j → column (values_of row) j ≡ V.Null
no_column row j low = sym (one V.Null (column (values_of row) j) (null_pushed row j (0 ∷ []) [] (V.Null ∷ []) low refl refl))

pub null_field : IsField (0 ∷ [])
null_field = inl (omega arith, refl)

pub ruleset column_laws = (column_found, no_column)

pub ruleset null_laws = (null_field)
