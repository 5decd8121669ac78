-- Fields are values' fields, and rows rows of values.
use Rattle.std.proofs.Common.{◌≡◌, ℕ, suc, ◌-◌, ◌^◌, ◌<◌, List, [], ◌∷◌, length, ℤ, pos, negsuc, true, false, refl, sym, ap, subst, ◌∙◌, inl, inr, arith}
use Rattle.std.specs.Prelude.{FitsSigned, map, All}
use Rattle.std.specs.Int.{w64}
use Rattle.std.proofs.lemmas.Bool.{cases_lt}
use Rattle.std.proofs.lemmas.Int.{ints}
use Rattle.std.proofs.lemmas.List.Elements.{All-cons, All-nil}
use Rattle.std.proofs.lemmas.Bool.Decides.{nat_tests}
use Rattle.std.specs.Cmp.Lexicographic.{slice_cmp}
use Rattle.std.specs.Ordering.{nat_cmp, int_cmp}
use Rattle.al_value.proofs.FieldLaws.{slice_cmp-field_bytes}
use Rattle.al_value.specs.Field.{field_bytes, raised}
use Rattle.al_value.specs.Value.{IsValue}
use Rattle.al_value.specs.declared.value.Value.{Value}
use Rattle.al_value.specs.declared.value.Value.TheVariants as V
use Rattle.hy_frame.specs.Field.{IsField}
use Rattle.hy_frame.specs.FrameText.{AllRows}
use Rattle.hy_frame.specs.Row.{AllFields, Fields}
use Rattle.hy_mail.specs.Rows.{AreRowsOf, FieldsAreValues, FieldsTellValues, ParcelsAreSeen, ParcelsAreSeenOnce, RowsAreValues, RowsTellValues, fields_of, rows_in}

-- ---- fields

-- the int of a number of 64 bits
lowered : (n : ℕ) → n < 2 ^ 64 → (z : ℤ) × FitsSigned w64 z × (raised z ≡ n)
lowered n lt = elim (cases_lt n (2 ^ 63)) [
  | inl low ↦ (negsuc (2 ^ 63 - 1 - n), omega (arith, ints), omega arith)
  | inr high ↦ (pos (n - 2 ^ 63), omega (arith, ints), omega arith)
]

value_of : (bytes : List ℕ) → IsField bytes → (v : Value) × IsValue v × (field_bytes v ≡ bytes)
value_of [] f = absurd f
value_of (tag ∷ rest) (inl (low, nil)) =
    elim (cases_lt tag 1) [
      | inl zero_tag ↦ let is : tag ≡ 0 = omega arith in (V.Null, tt, cc)
      | inr above ↦
          elim (cases_lt tag 2) [
            | inl one_tag ↦ let is : tag ≡ 1 = omega arith in (V.Bool false, tt, cc)
            | inr two ↦ let is : tag ≡ 2 = omega arith in (V.Bool true, tt, cc)
          ]
    ]
value_of (tag ∷ rest) (inr (inl (is, (n, low, bytes)))) =
    let z = lowered n low in
    (V.Int z.0, z.1, cc)
value_of (tag ∷ rest) (inr (inr (is, text))) = (V.Text rest, text, ap (λ (k : ℕ). k ∷ rest) (sym is))

raised-lt : (z : ℤ) → FitsSigned w64 z → raised z < 2 ^ 64
raised-lt (pos n) fits = omega (arith, ints, fits)
raised-lt (negsuc n) fits = omega (arith, ints, fits)

field_of : (v : Value) → IsValue v → IsField (field_bytes v)
field_of V.Null p = inl (omega arith, refl)
field_of (V.Bool false) p = inl (omega arith, refl)
field_of (V.Bool true) p = inl (omega arith, refl)
field_of (V.Int z) p = inr (inl (refl, (raised z, raised-lt z p, refl)))
field_of (V.Text bytes) p = inr (inr (refl, p))

pub fields_are_values : FieldsAreValues
fields_are_values bytes = (value_of bytes, λ x. subst IsField x.2 (field_of x.0 x.1))

same_int : (a b : ℤ) → int_cmp a b ≡ int_cmp a a → a ≡ b
same_int (pos m) (pos n) e = grind (arith, nat_tests)
same_int (pos m) (negsuc n) e = grind (arith, nat_tests)
same_int (negsuc m) (pos n) e = grind (arith, nat_tests)
same_int (negsuc m) (negsuc n) e = grind (arith, nat_tests)

-- ints compare as their fields do
same_ints : (a b : ℤ) → FitsSigned w64 a → FitsSigned w64 b → field_bytes (V.Int a) ≡ field_bytes (V.Int b) → a ≡ b
same_ints a b p q e =
    same_int a b (sym (slice_cmp-field_bytes (V.Int a) (V.Int b) p q) ∙ ap (slice_cmp nat_cmp (field_bytes (V.Int a))) (sym e) ∙ slice_cmp-field_bytes (V.Int a) (V.Int a) p p)

after_tag : (a b : ℕ) (xs ys : List ℕ) → ◌≡◌ {A = List ℕ} (a ∷ xs) (b ∷ ys) → xs ≡ ys
after_tag a b xs ys e = cc

pub fields_tell : FieldsTellValues
fields_tell V.Null V.Null p q e = refl
fields_tell V.Null (V.Bool false) p q e = absurd cc
fields_tell V.Null (V.Bool true) p q e = absurd cc
fields_tell V.Null (V.Int z) p q e = absurd cc
fields_tell V.Null (V.Text t) p q e = absurd cc
fields_tell (V.Bool false) V.Null p q e = absurd cc
fields_tell (V.Bool false) (V.Bool false) p q e = refl
fields_tell (V.Bool false) (V.Bool true) p q e = absurd cc
fields_tell (V.Bool false) (V.Int z) p q e = absurd cc
fields_tell (V.Bool false) (V.Text t) p q e = absurd cc
fields_tell (V.Bool true) V.Null p q e = absurd cc
fields_tell (V.Bool true) (V.Bool false) p q e = absurd cc
fields_tell (V.Bool true) (V.Bool true) p q e = refl
fields_tell (V.Bool true) (V.Int z) p q e = absurd cc
fields_tell (V.Bool true) (V.Text t) p q e = absurd cc
fields_tell (V.Int z) V.Null p q e = absurd cc
fields_tell (V.Int z) (V.Bool false) p q e = absurd cc
fields_tell (V.Int z) (V.Bool true) p q e = absurd cc
fields_tell (V.Int y) (V.Int z) p q e = ap V.Int (same_ints y z p q e)
fields_tell (V.Int z) (V.Text t) p q e = absurd cc
fields_tell (V.Text t) V.Null p q e = absurd cc
fields_tell (V.Text t) (V.Bool false) p q e = absurd cc
fields_tell (V.Text t) (V.Bool true) p q e = absurd cc
fields_tell (V.Text t) (V.Int z) p q e = absurd cc
fields_tell (V.Text s) (V.Text t) p q e = ap V.Text (after_tag 4 4 s t e)

-- ---- rows

first : {X : Type 0} (P : X → Type 0) (x : X) (xs : List X) → All P (x ∷ xs) → P x
first P x xs h = h 0 x (omega arith)

others : {X : Type 0} (P : X → Type 0) (x : X) (xs : List X) → All P (x ∷ xs) → All P xs
others P x xs h k d lt = h (suc k) d (omega arith)

row_of : (row : Fields) → AllFields row → (values : List Value) × (length values ≡ length row) × All IsValue values × (fields_of values ≡ row)
row_of [] h = ([], refl, All-nil IsValue, refl)
row_of (f ∷ fs) h =
    let v = value_of f h.0 in
    let vs = row_of fs h.1 in
    (v.0 ∷ vs.0, ap suc vs.1, All-cons IsValue v.0 vs.0 v.1 vs.2, λ i. v.2 i ∷ vs.3 i)

pub rows_are_values : RowsAreValues
rows_are_values arity row h = let r = row_of row h.1 in (r.0, r.1 ∙ h.0, r.2, r.3)

same_cons : {X : Type 0} (a b : X) (xs ys : List X) → ◌≡◌ {A = List X} (a ∷ xs) (b ∷ ys) → (a ≡ b) × (xs ≡ ys)
same_cons a b xs ys e = (cc, cc)

pub rows_tell : RowsTellValues
rows_tell [] [] p q e = refl
rows_tell [] (w ∷ ws) p q e = absurd cc
rows_tell (v ∷ vs) [] p q e = absurd cc
rows_tell (v ∷ vs) (w ∷ ws) p q e =
    let s = same_cons (field_bytes v) (field_bytes w) (fields_of vs) (fields_of ws) e in
    let h = fields_tell v w (first IsValue v vs p) (first IsValue w ws q) s.0 in
    let t = rows_tell vs ws (others IsValue v vs p) (others IsValue w ws q) s.1 in
    λ i. h i ∷ t i

-- ---- lists of rows, and parcels

seen_rows : (arity : ℕ) (rows : List Fields) → AllRows arity rows → (seen : List (List Value)) × AreRowsOf rows seen × All (λ row. length row ≡ arity) seen
seen_rows arity [] h = ([], record { fields = refl; values = All-nil (All IsValue) }, All-nil (λ row. length row ≡ arity))
seen_rows arity (r ∷ rs) h =
    let v = rows_are_values arity r h.0 in
    let vs = seen_rows arity rs h.1 in (
      v.0 ∷ vs.0,
      record { fields = λ i. sym v.3 i ∷ vs.1.fields i; values = All-cons (All IsValue) v.0 vs.0 v.2 vs.1.values },
      All-cons (λ row. length row ≡ arity) v.0 vs.0 v.1 vs.2,
    )

pub parcels_are_seen : ParcelsAreSeen
parcels_are_seen arity p h = seen_rows arity (rows_in p) h

same_rows : (a b : List (List Value)) → All (All IsValue) a → All (All IsValue) b → map fields_of a ≡ map fields_of b → a ≡ b
same_rows [] [] p q e = refl
same_rows [] (w ∷ ws) p q e = absurd cc
same_rows (v ∷ vs) [] p q e = absurd cc
same_rows (v ∷ vs) (w ∷ ws) p q e =
    let s = same_cons (fields_of v) (fields_of w) (map fields_of vs) (map fields_of ws) e in
    let h = rows_tell v w (first (All IsValue) v vs p) (first (All IsValue) w ws q) s.0 in
    let t = same_rows vs ws (others (All IsValue) v vs p) (others (All IsValue) w ws q) s.1 in
    λ i. h i ∷ t i

pub seen_once : ParcelsAreSeenOnce
seen_once p a b m n = same_rows a b m.values n.values (sym m.fields ∙ n.fields)
