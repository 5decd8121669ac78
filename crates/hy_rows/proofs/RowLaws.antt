-- The values of a row one field further.
use Rattle.std.proofs.Common.{◌≡◌, ℕ, zero, suc, ◌<◌, ◌≤◌, ◌+◌, List, [], ◌∷◌, ◌++◌, map, length, take, get_or, refl, sym, ap, subst, ◌∙◌, arith}
use Rattle.std.proofs.lemmas.List.{map-append, length-map, length-append, take_all, take_more}
use Rattle.al_value.specs.Field.{field_bytes}
use Rattle.al_value.specs.Value.{IsValue}
use Rattle.al_value.specs.declared.value.Value.{Value}
use Rattle.al_value.specs.declared.value.Value.TheVariants as V
use Rattle.al_func.specs.Rex.{IsSound, eval_rex}
use Rattle.al_func.specs.declared.rex.Rex.{Rex}
use Rattle.hy_frame.specs.Field.{IsField}
use Rattle.hy_frame.specs.Row.{Fields}
use Rattle.hy_store.proofs.FieldLaws.{field_of_value}
use Rattle.hy_driver.specs.Rows.{Row, value_of, values_of}
use Rattle.hy_driver.proofs.Values.{values_again}
use Rattle.hy_job.specs.Columns.{assigned, column, cut}
use Rattle.hy_job.specs.Sound.{AreSound}
use Rattle.hy_job.proofs.RowLaws.{upto}

-- ---- fields and their values

value_again : (v : Value) → IsValue v → value_of (field_bytes v) ≡ v
unfolding values_of
value_again v is = ap (λ (row : Row). column row 0) (values_again (v ∷ []) (is, tt))

pub value_found : (v : Value) (field : List ℕ) → IsValue v → field_bytes v ≡ field → v ≡ value_of field
value_found v field is same = sym (value_again v is) ∙ ap value_of same

-- the bytes behind none
written : (v : Value) (before bytes : List ℕ) → before ≡ [] → bytes ≡ before ++ field_bytes v → bytes ≡ field_bytes v
written v before bytes none is = is ∙ ap (λ b. b ++ field_bytes v) none

pub is_written : (v : Value) (before bytes : List ℕ) → IsValue v → before ≡ [] → bytes ≡ before ++ field_bytes v → IsField bytes
is_written v before bytes is none same = subst IsField (sym (written v before bytes none same)) (field_of_value v is)

pub value_pushed : (v : Value) (before bytes : List ℕ) (values values' : Row) → IsValue v → before ≡ [] → bytes ≡ before ++ field_bytes v → values' ≡ values ++ value_of bytes ∷ [] → values' ≡ values ++ v ∷ []
value_pushed v before bytes values values' is none same pushed = pushed ∙ ap (λ x. values ++ x ∷ []) (ap value_of (written v before bytes none same) ∙ value_again v is)

-- ---- rows and their values

more_values : (fields : Fields) (field : List ℕ) → values_of (fields ++ field ∷ []) ≡ values_of fields ++ value_of field ∷ []
unfolding values_of
more_values fields field = map-append value_of fields (field ∷ [])

pub values_pushed : (old new : Fields) (field : List ℕ) → new ≡ old ++ field ∷ [] → values_of new ≡ values_of old ++ value_of field ∷ []
values_pushed old new field is = ap values_of is ∙ more_values old field

pub as_wide : (fields : Fields) → length (values_of fields) ≡ length fields
unfolding values_of
as_wide fields = length-map fields value_of

none_of_none : values_of [] ≡ []
unfolding values_of
none_of_none = refl

-- the value of a column is that of its field, and NULL where there is none
column_in : (fields : Fields) (j : ℕ) → j < length fields → column (values_of fields) j ≡ value_of (get_or fields j [])
unfolding values_of
column_in [] j low = absurd (omega (arith, low))
column_in (field ∷ fields) zero low = refl
column_in (field ∷ fields) (suc j) low = let lower : j < length fields = omega (arith, low) in column_in fields j lower

column_out : (fields : Fields) (j : ℕ) → length fields ≤ j → column (values_of fields) j ≡ V.Null
unfolding values_of
column_out [] zero low = refl
column_out [] (suc j) low = refl
column_out (field ∷ fields) zero low = absurd (omega (arith, low))
column_out (field ∷ fields) (suc j) low = let lower : length fields ≤ j = omega (arith, low) in column_out fields j lower

pub column_pushed : (row : Fields) (j : ℕ) (field : List ℕ) (values values' : Row) → j < length row → field ≡ get_or row j [] → values' ≡ values ++ value_of field ∷ [] → values' ≡ values ++ column (values_of row) j ∷ []
column_pushed row j field values values' low is pushed = pushed ∙ ap (λ x. values ++ x ∷ []) (ap value_of is ∙ sym (column_in row j low))

pub null_pushed : (row : Fields) (j : ℕ) (field : List ℕ) (values values' : Row) → length row ≤ j → field ≡ 0 ∷ [] → values' ≡ values ++ value_of field ∷ [] → values' ≡ values ++ column (values_of row) j ∷ []
null_pushed row j field values values' low is pushed = pushed ∙ ap (λ x. values ++ x ∷ []) (ap value_of is ∙ sym (column_out row j low))

-- ---- loops over rows

pub values_first : (row : Fields) (values : Row) → values ≡ [] → values ≡ values_of (take 0 row)
values_first row values none = none ∙ sym none_of_none

pub values_next : (row : Fields) (j : ℕ) (field : List ℕ) (v : Value) (values values' : Row) → j < length row → field ≡ get_or row j [] → v ≡ value_of field → values ≡ values_of (take j row) → values' ≡ values ++ v ∷ []
    → values' ≡ values_of (take (j + 1) row)
values_next row j field v values values' low at is same pushed =
    pushed ∙ (λ i. same i ++ is i ∷ []) ∙ sym (more_values (take j row) field) ∙ ap values_of (here row j field low at)
  where
    here : (row : Fields) (j : ℕ) (field : List ℕ) → j < length row → field ≡ get_or row j [] → take j row ++ field ∷ [] ≡ take (j + 1) row
    here row j field low at = subst (λ (y : List ℕ). take j row ++ y ∷ [] ≡ take (j + 1) row) (sym at) (sym (take_more row j [] low))

pub values_all : (row : Fields) (j : ℕ) (values : Row) → length row ≤ j → values ≡ values_of (take j row) → values ≡ values_of row
values_all row j values low is = is ∙ ap values_of (take_all j row low)

pub put_first : (out : Fields) (row : Row) → out ≡ [] → (values_of out ≡ take 0 row) × (length out ≡ 0)
put_first out row none = (ap values_of none ∙ none_of_none, ap (λ (fields : Fields). length fields) none)

pub put_next : (row : Row) (j : ℕ) (v : Value) (out out' : Fields) → j < length row → v ≡ get_or row j v → (values_of out ≡ take j row) × (length out ≡ j) → values_of out' ≡ values_of out ++ v ∷ [] → length out' ≡ length out + 1
    → (values_of out' ≡ take (j + 1) row) × (length out' ≡ j + 1)
put_next row j v out out' low at h pushed wide = (pushed ∙ ap (λ r. r ++ v ∷ []) h.0 ∙ upto row j v low at, wide ∙ ap (λ n. n + 1) h.1)

pub put_all : (row : Row) (j : ℕ) (out : Fields) → length row ≤ j → (values_of out ≡ take j row) × (length out ≡ j) → values_of out ≡ row
put_all row j out low h = h.0 ∙ take_all j row low

pub put_wide : (row : Row) (j : ℕ) (out : Fields) → length row ≤ j → (values_of out ≡ take j row) × (length out ≡ j) → length out ≡ length row
put_wide row j out low h = sym (as_wide out) ∙ ap (λ (r : Row). length r) (put_all row j out low h)

pub cut_first : (out : Fields) (columns : List ℕ) (values : Row) → out ≡ [] → (values_of out ≡ map (column values) (take 0 columns)) × (length out ≡ 0)
cut_first out columns values none = (ap values_of none ∙ none_of_none, ap (λ (fields : Fields). length fields) none)

pub cut_next : (columns : List ℕ) (i j : ℕ) (values : Row) (out out' : Fields) → i < length columns → j ≡ get_or columns i j → (values_of out ≡ map (column values) (take i columns)) × (length out ≡ i)
    → values_of out' ≡ values_of out ++ column values j ∷ [] → length out' ≡ length out + 1 → (values_of out' ≡ map (column values) (take (i + 1) columns)) × (length out' ≡ i + 1)
cut_next columns i j values out out' low at h pushed wide = (
  pushed ∙ ap (λ r. r ++ column values j ∷ []) h.0 ∙ sym (map-append (column values) (take i columns) (j ∷ [])) ∙ ap (map (column values)) (upto columns i j low at),
  wide ∙ ap (λ n. n + 1) h.1,
)

pub cut_all : (columns : List ℕ) (i : ℕ) (values : Row) (out : Fields) → length columns ≤ i → (values_of out ≡ map (column values) (take i columns)) × (length out ≡ i) → values_of out ≡ cut columns values
cut_all columns i values out low h = h.0 ∙ ap (map (column values)) (take_all i columns low)

pub cut_wide : (columns : List ℕ) (i : ℕ) (values : Row) (out : Fields) → length columns ≤ i → (values_of out ≡ map (column values) (take i columns)) × (length out ≡ i) → length out ≡ length columns
cut_wide columns i values out low h = sym (as_wide out) ∙ ap (λ (r : Row). length r) (cut_all columns i values out low h) ∙ length-map columns (column values)

-- ---- expressions over the values

pub sound_row : (c : Rex) (fields : Fields) (values slice : Row) → slice ≡ values → values ≡ values_of fields → IsSound (length fields) c → IsSound (length slice) c
sound_row c fields values slice same is sound = subst (λ n. IsSound n c) (sym (ap (λ (r : Row). length r) (same ∙ is) ∙ as_wide fields)) sound

pub sound_rows : (made : List Rex) (fields : Fields) (values : Row) → values ≡ values_of fields → AreSound (length fields) made → AreSound (length values) made
sound_rows made fields values is sound = subst (λ n. AreSound n made) (sym (ap (λ (r : Row). length r) is ∙ as_wide fields)) sound

pub assigned_wide : (made : List Rex) (fields : Fields) (values longer slice : Row) → slice ≡ longer → longer ≡ assigned made values → values ≡ values_of fields → length slice ≡ length fields + length made
assigned_wide made fields values longer slice same is from =
    ap (λ (r : Row). length r) (same ∙ is ∙ ap (assigned made) from) ∙ length-append (values_of fields) (map (λ e. eval_rex e (values_of fields)) made)
    ∙ (λ i. as_wide fields i + length-map made (λ e. eval_rex e (values_of fields)) i)

pub assigned_few : (made : List Rex) (fields : Fields) (values longer slice : Row) → slice ≡ longer → longer ≡ assigned made values → values ≡ values_of fields → length fields + length made ≤ 1024 → length slice ≤ 1024
assigned_few made fields values longer slice same is from few = subst (λ n. n ≤ 1024) (sym (assigned_wide made fields values longer slice same is from)) few

pub ruleset row_laws = (value_found, is_written, value_pushed, values_pushed, column_pushed, null_pushed, values_first, values_next, values_all, put_first, put_next, put_all, put_wide, cut_first, cut_next, cut_all, cut_wide, sound_row, sound_rows, assigned_wide, assigned_few)
