-- What is loaded is values of the program.
use Rattle.std.proofs.Common.{ℕ, List, [], ◌∷◌, ◌+◌, ◌≡◌, ◌==◌, ◌∙◌, Result, Ok, Err, Bool, true, false, ◌&&◌, map, length, refl, sym, subst, inl, inr}
use Rattle.std.specs.Prelude.{nat_le, if◌then◌else◌, codes}
use Rattle.std.specs.List.{All, zip, enumerate_from}
use Rattle.std.specs.Str.{is_utf8}
use Rattle.std.proofs.lemmas.Bool.{cases_Bool, leb-true, and_parts, eqb-true}
use Rattle.std.proofs.lemmas.List.Elements.{All-cons, All-nil}
use Rattle.std.proofs.lemmas.Str.{IsUtf8-from_is_utf8}
use Rattle.al_value.specs.declared.value.Value.{Value}
use Rattle.al_value.specs.declared.value.Value.TheVariants as V
use Rattle.al_value.specs.Value.{IsValue}
use Rattle.al_csv.specs.declared.decl.Column.{Column}
use Rattle.al_csv.specs.declared.decl.Kind.{Kind}
use Rattle.al_csv.specs.declared.decl.Kind.TheVariants as K
use Rattle.al_csv.specs.declared.refused.DataKind.{DataKind}
use Rattle.al_csv.specs.declared.refused.DataKind.TheVariants.{BadInt, BadBool, BadUtf8, TooLong}
use Rattle.al_csv.specs.declared.refused.BadRecord.{BadRecord}
use Rattle.al_csv.specs.Fields.{int_field, bool_field, text_field, field_value, is_digits, without_sign, fits_int, int_of, is_word}
use Rattle.al_csv.specs.Records.{all_ok, placed, cell_of, row_of}
use Rattle.al_csv.proofs.AllOk.{all_ok_nil, first_ok}
use Rattle.al_csv.proofs.Cells.{cells, row_is}
use Rattle.al_csv.proofs.FieldLaws.{fits_is}
use Rattle.al_csv.proofs.Rows.{rows_from}

-- a value that a result has is one of the program
abbrev Valid : {E : Type 0} → Result Value E → Type 0
Valid (Ok v) = IsValue v
Valid (Err e) = Unit {0}

chosen : (b : Bool) (r s : Result Value DataKind) → (b ≡ true → Valid r) → Valid s → Valid (if b then r else s)
chosen true r s h k = h refl
chosen false r s h k = k

int_valid : (f : List ℕ) → Valid (int_field f)
int_valid f = chosen (is_digits (without_sign f) && fits_int (int_of f)) (Ok (V.Int (int_of f))) (Err BadInt) (λ e. fits_is (int_of f) (and_parts (is_digits (without_sign f)) (fits_int (int_of f)) e).1) tt

bool_valid : (f : List ℕ) → Valid (bool_field f)
bool_valid f =
    chosen (is_word (codes "true") f) (Ok (V.Bool true)) (if is_word (codes "false") f then Ok (V.Bool false) else Err BadBool) (λ e. tt)
    (chosen (is_word (codes "false") f) (Ok (V.Bool false)) (Err BadBool) (λ e. tt) tt)

text_valid : (f : List ℕ) → Valid (text_field f)
text_valid f =
    chosen (is_utf8 f) (if nat_le (length f) 32000 then Ok (V.Text f) else Err TooLong) (Err BadUtf8)
    (λ e. chosen (nat_le (length f) 32000) (Ok (V.Text f)) (Err TooLong) (λ few. (IsUtf8-from_is_utf8 f e, leb-true (length f) 32000 few)) tt) tt

field_valid : (kind : Kind) (f : List ℕ) → Valid (field_value kind f)
field_valid kind [] = tt
field_valid K.Int (b ∷ f) = int_valid (b ∷ f)
field_valid K.Text (b ∷ f) = text_valid (b ∷ f)
field_valid K.Bool (b ∷ f) = bool_valid (b ∷ f)

cell_valid : (number : ℕ) (cell : ℕ × (Column × List ℕ)) → Valid (cell_of number cell)
cell_valid number cell = at (field_value cell.1.0.kind cell.1.1) (field_valid cell.1.0.kind cell.1.1)
  where
    at : (r : Result Value DataKind) → Valid r → Valid (placed number cell.0 r)
    at (Ok v) h = h
    at (Err kind) h = tt

all_valid : (number : ℕ) (cells : List (ℕ × (Column × List ℕ))) (row : List Value) → all_ok (map (cell_of number) cells) ≡ Ok row → All IsValue row
all_valid number [] row h = subst (All IsValue) (sym (all_ok_nil {E = BadRecord} row h)) (All-nil IsValue)
all_valid number (c ∷ cells) row h =
    let (v, others, here, rest, same) = first_ok (cell_of number c) (map (cell_of number) cells) row h in
    subst (All IsValue) (sym same) (All-cons IsValue v others (subst Valid here (cell_valid number c)) (all_valid number cells others rest))

row_valid : (columns : List Column) (number : ℕ) (fields : List (List ℕ)) (row : List Value) → row_of columns (number, fields) ≡ Ok row → All IsValue row
unfolding cells
row_valid columns number fields row h =
    elim (cases_Bool (length fields == length columns)) [
      | inl y ↦ all_valid number (enumerate_from 1 (zip columns fields)) row (sym (row_is number columns fields (eqb-true (length fields) (length columns) y)) ∙ h)
      | inr n ↦ let other = rw n at h in cc
    ]

pub rows_valid : (columns : List Column) (first : ℕ) (records : List (List (List ℕ))) (rows : List (List Value)) → all_ok (rows_from columns first records) ≡ Ok rows → All (All IsValue) rows
unfolding rows_from
rows_valid columns first [] rows h = subst (All (All IsValue)) (sym (all_ok_nil {E = BadRecord} rows h)) (All-nil (All IsValue))
rows_valid columns first (f ∷ records) rows h =
    let (row, others, here, rest, same) = first_ok (row_of columns (first, f)) (map (row_of columns) (enumerate_from (first + 1) records)) rows h in
    subst (All (All IsValue)) (sym same) (All-cons (All IsValue) row others (row_valid columns first f row here) (rows_valid columns (first + 1) records others rest))
