-- The values of a row's fields.
use Rattle.std.proofs.Common.{◌≡◌, ℕ, ◌^◌, ◌<◌, true, false, ℤ, pos, negsuc, List, [], ◌∷◌, length, refl, sym, ap, subst, ◌∙◌, arith, append-nil}
use Rattle.std.specs.Prelude.{FitsSigned}
use Rattle.std.specs.Int.{w64}
use Rattle.std.proofs.lemmas.Int.{ints}
use Rattle.std.proofs.lemmas.List.{length-map}
use Rattle.byteorder.specs.Endian.{big_bytes, big_number}
use Rattle.byteorder.specs.Numbers.{big_number-reads_back}
use Rattle.al_value.specs.Field.{raised, field_bytes}
use Rattle.al_value.specs.Value.{IsValue}
use Rattle.al_value.specs.declared.value.Value.{Value}
use Rattle.al_value.specs.declared.value.Value.TheVariants as V
use Rattle.hy_frame.specs.Row.{Fields}
use Rattle.hy_store.specs.Fields.{fields_of}
use Rattle.hy_store.proofs.FieldLaws.{rows_are_values}
use Rattle.hy_driver.specs.Rows.{Row, AreValues, lowered, value_of, values_of, ValuesAgain, FieldsAgain}

raised_lt : (z : ℤ) → FitsSigned w64 z → raised z < 2 ^ 64
raised_lt (pos n) fits = omega (arith, ints, fits)
raised_lt (negsuc n) fits = omega (arith, ints, fits)

lowered_again : (z : ℤ) → FitsSigned w64 z → lowered (raised z) ≡ z
lowered_again (pos n) fits = grind (arith, ints)
lowered_again (negsuc n) fits = grind (arith, ints)

value_again : (v : Value) → IsValue v → value_of (field_bytes v) ≡ v
value_again V.Null p = refl
value_again (V.Bool false) p = refl
value_again (V.Bool true) p = refl
value_again (V.Int z) p =
    let number : big_number 8 (big_bytes 8 (raised z)) ≡ raised z = ap (λ (l : List ℕ). big_number 8 l) (sym (append-nil (big_bytes 8 (raised z)))) ∙ big_number-reads_back 8 (raised z) [] (raised_lt z p) in
    ap V.Int (ap lowered number ∙ lowered_again z p)
value_again (V.Text t) p = refl

pub values_again : ValuesAgain
unfolding values_of
values_again [] p = refl
values_again (v ∷ row) p = rw (value_again v p.0, values_again row p.1) refl

pub fields_again : FieldsAgain
fields_again arity fields is =
    let row = (rows_are_values arity fields).0 is in
    let same : values_of fields ≡ row.0 = ap values_of (sym row.3) ∙ values_again row.0 row.2 in
    (subst AreValues (sym same) row.2, ap fields_of same ∙ row.3, ap (λ (r : Row). length r) same ∙ row.1)

-- a row has as many values as fields
pub as_many : (row : Row) (fields : Fields) (n : ℕ) → fields_of row ≡ fields → length fields ≡ n → length row ≡ n
as_many row fields n is wide = sym (length-map row field_bytes) ∙ (ap (λ (l : Fields). length l) is ∙ wide)
