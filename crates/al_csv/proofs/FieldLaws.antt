-- What std's reading of a text gives is what our definitions of a field say.
use Rattle.std.proofs.Common.{ℕ, zero, suc, ◌^◌, ◌<◌, ◌≤◌, ◌==◌, List, [], ◌∷◌, ◌≡◌, ◌∙◌, true, false, length, refl, sym, ap, inl, inr, arith, Ok, Err, ℤ, pos, negsuc, neg_ℤ, IsUtf8, get_or}
use Rattle.std.proofs.lemmas.Int.{to_z-of_z}
use mir.Val.{to_z, of_z}
use Rattle.std.proofs.lemmas.Bool.{eqb-true, cases_Bool, false≢true, false_from_ne_true, ltb-true, lt-ltb, le-leb, lt-leb}
use Rattle.std.proofs.lemmas.Str.{IsUtf8-from_ascii, is_utf8-from_IsUtf8, IsUtf8-from_is_utf8}
use Rattle.std.proofs.lemmas.Fmt.{IsAscii-from_digits}
use Rattle.std.proofs.lemmas.Str.Parse.{IsNumeralModel, numerals_by_weight, tells_all_ascii_digits, WeighsDigits}
use Rattle.std.specs.Str.{all_ascii_digits, is_utf8, IsAscii}
use Rattle.std.specs.Str.Parse.{AllDigits, IsNumeral, signed_digits_value, without_leading_sign}
use Rattle.std.specs.Prelude.{FitsSigned}
use Rattle.std.specs.Int.{w64}
use Rattle.al_value.specs.declared.value.Value.TheVariants as V
use Rattle.al_csv.specs.declared.refused.DataKind.TheVariants.{BadInt, BadUtf8, TooLong}
use Rattle.al_csv.specs.Fields.{number_of, without_sign, int_of, is_digits, fits_int, int_field, text_field}

pub text_good : (f : List ℕ) → IsUtf8 f → (32000 < length f → ⊥) → text_field f ≡ Ok (V.Text f)
text_good f u h = let le : length f ≤ 32000 = omega arith in rw (is_utf8-from_IsUtf8 f u, le-leb (length f) 32000 le) refl

pub text_long : (f : List ℕ) → IsUtf8 f → 32000 < length f → text_field f ≡ Err TooLong
text_long f u h = rw (is_utf8-from_IsUtf8 f u, lt-leb (length f) 32000 h) refl

not_utf8 : (f : List ℕ) → (IsUtf8 f → ⊥) → is_utf8 f ≡ false
not_utf8 f h = false_from_ne_true (is_utf8 f) (λ e. h (IsUtf8-from_is_utf8 f e))

pub text_bad : (f : List ℕ) → (IsUtf8 f → ⊥) → text_field f ≡ Err BadUtf8
text_bad f h = rw (not_utf8 f h) refl

-- our digits and their number are those of `parse`
weighs : WeighsDigits number_of
unfolding number_of
weighs = record { empty = refl; more = λ c cs h. refl }

own : IsNumeralModel (λ ds. all_ascii_digits ds ≡ true) number_of
own = numerals_by_weight _ tells_all_ascii_digits number_of weighs

digits_are : (ds : List ℕ) → is_digits ds ≡ true → IsNumeral 10 ds
digits_are [] h = absurd (false≢true h)
digits_are (d ∷ ds) h = (omega arith, own.to (d ∷ ds) h)

digits_from : (ds : List ℕ) → IsNumeral 10 ds → is_digits ds ≡ true
digits_from [] p = absurd (omega (arith, p.0))
digits_from (d ∷ ds) p = own.from (d ∷ ds) p.1

sign_is : (f : List ℕ) → without_leading_sign f ≡ without_sign f
sign_is [] = refl
sign_is (b ∷ rest) =
    elim (cases_Bool (b == 45)) [
      | inl y ↦ rw y refl
      | inr n ↦ elim (cases_Bool (b == 43)) [ inl y2 ↦ rw (n, y2) refl | inr n2 ↦ rw (n, n2) refl ]
    ]

value_is : (f : List ℕ) → AllDigits 10 (without_sign f) → signed_digits_value 10 f ≡ int_of f
value_is [] h = ap (λ (n : ℕ). pos n) (sym (own.same [] h))
value_is (b ∷ rest) h =
    elim (cases_Bool (b == 45)) [
      | inl y ↦ let d = rw y at h in rw y (ap (λ (n : ℕ). neg_ℤ (pos n)) (sym (own.same rest d)))
      | inr n ↦ elim (cases_Bool (b == 43)) [
        | inl y2 ↦ let d = rw (n, y2) at h in rw (n, y2) (ap (λ (n : ℕ). pos n) (sym (own.same rest d)))
        | inr n2 ↦ let d = rw (n, n2) at h in rw (n, n2) (ap (λ (n : ℕ). pos n) (sym (own.same (b ∷ rest) d)))
      ]
    ]

pub fits_is : (z : ℤ) → fits_int z ≡ true → FitsSigned w64 z
fits_is (pos n) h = record { sfits = ltb-true n (2 ^ 63) h }
fits_is (negsuc n) h = record { sfits = ltb-true n (2 ^ 63) h }

fits_from : (z : ℤ) → FitsSigned w64 z → fits_int z ≡ true
fits_from (pos n) h = lt-ltb n (2 ^ 63) h.sfits
fits_from (negsuc n) h = lt-ltb n (2 ^ 63) h.sfits

int_good : (f : List ℕ) → IsNumeral 10 (without_sign f) → FitsSigned w64 (int_of f) → int_field f ≡ Ok (V.Int (int_of f))
int_good f p q = rw (digits_from (without_sign f) p, fits_from (int_of f) q) refl

int_bad : (f : List ℕ) → (IsNumeral 10 (without_sign f) → FitsSigned w64 (int_of f) → ⊥) → int_field f ≡ Err BadInt
int_bad f h =
    elim (cases_Bool (is_digits (without_sign f))) [
      | inl y ↦ elim (cases_Bool (fits_int (int_of f))) [
        | inl y2 ↦ absurd (h (digits_are (without_sign f) y) (fits_is (int_of f) y2))
        | inr n2 ↦ rw (y, n2) refl
      ]
      | inr n ↦ rw n refl
    ]

-- a number's bytes are text
ascii_more : (b : ℕ) (rest : List ℕ) → b < 128 → IsAscii rest → IsAscii (b ∷ rest)
ascii_more b rest h t = λ i. elim i as (λ (i : ℕ). get_or (b ∷ rest) i 0 < 128) [ zero ↦ h | suc k ↦ t k ]

ascii_sign : (f : List ℕ) → AllDigits 10 (without_sign f) → IsAscii f
ascii_sign [] h = IsAscii-from_digits [] tt
ascii_sign (b ∷ rest) h =
    elim (cases_Bool (b == 45)) [
      | inl y ↦ let d = rw y at h in ascii_more b rest (omega (arith, eqb-true b 45 y)) (IsAscii-from_digits rest d)
      | inr n ↦ elim (cases_Bool (b == 43)) [
        | inl y2 ↦ let d = rw (n, y2) at h in ascii_more b rest (omega (arith, eqb-true b 43 y2)) (IsAscii-from_digits rest d)
        | inr n2 ↦ let d = rw (n, n2) at h in IsAscii-from_digits (b ∷ rest) d
      ]
    ]

pub int_not_text : (f : List ℕ) → (IsUtf8 f → ⊥) → int_field f ≡ Err BadInt
int_not_text f h = int_bad f (λ p q. h (IsUtf8-from_ascii f (ascii_sign f p.1)))

-- what `parse` gives for a text of these bytes
pub int_parsed : (f t : List ℕ) (z : ℤ) → t ≡ f → (IsNumeral 10 (without_leading_sign t) × FitsSigned w64 (signed_digits_value 10 t)) × (z ≡ signed_digits_value 10 t) → int_field f ≡ Ok (V.Int (to_z w64 (of_z w64 z)))
int_parsed f t z e h0 =
    let h = rw e at h0 in
    let p : IsNumeral 10 (without_sign f) = rw sign_is at h.0.0 in
    let v = value_is f p.1 in
    let same : z ≡ int_of f = h.1 ∙ v in
    let q : FitsSigned w64 (int_of f) = rw v at h.0.1 in
    let fits : FitsSigned w64 z = rw same q in
    rw (to_z-of_z w64 z fits, same) (int_good f p q)

pub int_refused : (f t : List ℕ) → t ≡ f → (IsNumeral 10 (without_leading_sign t) × FitsSigned w64 (signed_digits_value 10 t) → ⊥) → int_field f ≡ Err BadInt
int_refused f t e h0 =
    let h = rw e at h0 in
    int_bad f (λ p q. h (rw sign_is p, rw (value_is f p.1) q))
