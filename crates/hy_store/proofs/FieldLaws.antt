-- A frame's field is the field of one value.
use Rattle.std.proofs.Common.{◌≡◌, ℕ, zero, suc, ◌-◌, ◌^◌, ◌<◌, List, [], ◌∷◌, ◌++◌, length, true, false, ℤ, pos, negsuc, refl, sym, ap, subst, ◌∙◌, inl, inr, arith}
use Rattle.std.specs.Prelude.{FitsSigned}
use Rattle.std.specs.List.{AllByRecursion}
use Rattle.std.specs.Int.{w64}
use Rattle.std.proofs.lemmas.Int.{ints}
use Rattle.std.proofs.lemmas.Bool.{cases_lt}
use Rattle.byteorder.specs.Endian.{big_bytes, big_number}
use Rattle.byteorder.specs.Numbers.{big_number-reads_back}
use Rattle.al_value.specs.Field.{raised, field_bytes}
use Rattle.al_value.specs.Value.{IsValue}
use Rattle.al_value.specs.declared.value.Value.{Value}
use Rattle.al_value.specs.declared.value.Value.TheVariants as V
use Rattle.hy_frame.specs.Field.{IsField, IsInt}
use Rattle.hy_frame.specs.Row.{Fields, AllFields, IsRow}
use Rattle.hy_store.specs.Fields.{fields_of, FieldsAreValues, RowsAreValues, OneRow}

raised_lt : (z : ℤ) → FitsSigned w64 z → raised z < 2 ^ 64
raised_lt (pos n) fits = omega (arith, ints, fits)
raised_lt (negsuc n) fits = omega (arith, ints, fits)

-- the int whose number this is
lowered : (n : ℕ) → n < 2 ^ 64 → (z : ℤ) × FitsSigned w64 z × (raised z ≡ n)
lowered n low =
    elim (cases_lt n (2 ^ 63)) [
      | inl small ↦ (negsuc (2 ^ 63 - 1 - n), grind (arith, ints), omega arith)
      | inr large ↦ (pos (n - 2 ^ 63), grind (arith, ints), omega arith)
    ]

raised_one : (a b : ℤ) → FitsSigned w64 a → FitsSigned w64 b → raised a ≡ raised b → a ≡ b
raised_one (pos m) (pos n) p q e = let same : m ≡ n = omega arith in ap pos same
raised_one (pos m) (negsuc n) p q e = absurd (omega (arith, ints, p, q))
raised_one (negsuc m) (pos n) p q e = absurd (omega (arith, ints, p, q))
raised_one (negsuc m) (negsuc n) p q e = let same : m ≡ n = omega (arith, ints, p, q) in ap negsuc same

bytes_one : (a b : ℕ) → a < 2 ^ 64 → b < 2 ^ 64 → big_bytes 8 a ≡ big_bytes 8 b → a ≡ b
bytes_one a b p q e =
    sym (big_number-reads_back 8 a [] p) ∙ ap (λ (l : List ℕ). big_number 8 (l ++ [])) e ∙ big_number-reads_back 8 b [] q

-- no two values have one field
pub one_value : (v w : Value) → IsValue v → IsValue w → field_bytes v ≡ field_bytes w → v ≡ w
one_value V.Null V.Null p q e = refl
one_value V.Null (V.Bool false) p q e = absurd (cc)
one_value V.Null (V.Bool true) p q e = absurd (cc)
one_value V.Null (V.Int z) p q e = absurd (cc)
one_value V.Null (V.Text t) p q e = absurd (cc)
one_value (V.Bool false) V.Null p q e = absurd (cc)
one_value (V.Bool true) V.Null p q e = absurd (cc)
one_value (V.Bool false) (V.Bool false) p q e = refl
one_value (V.Bool false) (V.Bool true) p q e = absurd (cc)
one_value (V.Bool true) (V.Bool false) p q e = absurd (cc)
one_value (V.Bool true) (V.Bool true) p q e = refl
one_value (V.Bool false) (V.Int z) p q e = absurd (cc)
one_value (V.Bool true) (V.Int z) p q e = absurd (cc)
one_value (V.Bool false) (V.Text t) p q e = absurd (cc)
one_value (V.Bool true) (V.Text t) p q e = absurd (cc)
one_value (V.Int z) V.Null p q e = absurd (cc)
one_value (V.Int z) (V.Bool false) p q e = absurd (cc)
one_value (V.Int z) (V.Bool true) p q e = absurd (cc)
one_value (V.Int a) (V.Int b) p q e =
    let tails : big_bytes 8 (raised a) ≡ big_bytes 8 (raised b) = cc in
    ap V.Int (raised_one a b p q (bytes_one (raised a) (raised b) (raised_lt a p) (raised_lt b q) tails))
one_value (V.Int z) (V.Text t) p q e = absurd (cc)
one_value (V.Text t) V.Null p q e = absurd (cc)
one_value (V.Text t) (V.Bool false) p q e = absurd (cc)
one_value (V.Text t) (V.Bool true) p q e = absurd (cc)
one_value (V.Text t) (V.Int z) p q e = absurd (cc)
one_value (V.Text a) (V.Text b) p q e = let same : a ≡ b = cc in ap V.Text same

-- a value has a field
pub field_of_value : (v : Value) → IsValue v → IsField (field_bytes v)
field_of_value V.Null p = inl (omega arith, refl)
field_of_value (V.Bool false) p = inl (omega arith, refl)
field_of_value (V.Bool true) p = inl (omega arith, refl)
field_of_value (V.Int z) p = inr (inl (refl, (raised z, raised_lt z p, refl)))
field_of_value (V.Text t) p = inr (inr (refl, p))

abbrev HasValue : List ℕ → Type 0
HasValue bytes = (v : Value) × IsValue v × (field_bytes v ≡ bytes)

of_tag : (tag : ℕ) → tag < 3 → HasValue (tag ∷ [])
of_tag zero low = (V.Null, tt, refl)
of_tag (suc zero) low = (V.Bool false, tt, refl)
of_tag (suc (suc zero)) low = (V.Bool true, tt, refl)
of_tag (suc (suc (suc n))) low = absurd (omega arith)

of_int : (rest : List ℕ) → IsInt rest → HasValue (3 ∷ rest)
of_int rest int =
    let z = lowered int.0 int.1 in
    (V.Int z.0, z.1, ap (λ (l : List ℕ). 3 ∷ l) (ap (big_bytes 8) z.2 ∙ sym int.2))

-- a field is that of a value
pub value_of_field : (bytes : List ℕ) → IsField bytes → HasValue bytes
value_of_field [] f = absurd f
value_of_field (tag ∷ rest) (inl f) = subst (λ (l : List ℕ). HasValue (tag ∷ l)) (sym f.1) (of_tag tag f.0)
value_of_field (tag ∷ rest) (inr (inl f)) = subst (λ (k : ℕ). HasValue (k ∷ rest)) (sym f.0) (of_int rest f.1)
value_of_field (tag ∷ rest) (inr (inr f)) = subst (λ (k : ℕ). HasValue (k ∷ rest)) (sym f.0) (V.Text rest, f.1, refl)

pub fields_are_values : FieldsAreValues
fields_are_values bytes = (value_of_field bytes, λ h. subst IsField h.2 (field_of_value h.0 h.1))

pub row_of_values : (row : List Value) → AllByRecursion IsValue row → AllFields (fields_of row)
row_of_values [] p = tt
row_of_values (v ∷ row) p = (field_of_value v p.0, row_of_values row p.1)

length_fields : (row : List Value) → length (fields_of row) ≡ length row
length_fields [] = refl
length_fields (v ∷ row) = ap suc (length_fields row)

values_of_row : (fields : Fields) → AllFields fields → (row : List Value) × AllByRecursion IsValue row × (fields_of row ≡ fields)
values_of_row [] p = ([], tt, refl)
values_of_row (f ∷ fields) p =
    let v = value_of_field f p.0 in
    let row = values_of_row fields p.1 in
    (v.0 ∷ row.0, (v.1, row.1), rw (v.2, row.2) refl)

pub rows_are_values : RowsAreValues
rows_are_values arity fields = (
  λ is. let row = values_of_row fields is.1 in
      (row.0, sym (length_fields row.0) ∙ ap (λ (l : Fields). length l) row.2 ∙ is.0, row.1, row.2),
  λ h. subst (IsRow arity) h.3 (length_fields h.0 ∙ h.1, row_of_values h.0 h.2),
)

pub one_row : OneRow
one_row [] [] p q e = refl
one_row [] (w ∷ b) p q e = absurd (cc)
one_row (v ∷ a) [] p q e = absurd (cc)
one_row (v ∷ a) (w ∷ b) p q e =
    let heads : field_bytes v ≡ field_bytes w = cc in
    let tails : fields_of a ≡ fields_of b = cc in
    rw (one_value v w p.0 q.0 heads, one_row a b p.1 q.1 tails) refl
