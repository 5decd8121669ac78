-- Fields are ordered as their values are, and which bytes are no field.
use Rattle.std.proofs.Common.{◌≡◌, ℕ, zero, suc, ◌+◌, ◌*◌, ◌%◌, ◌^◌, ◌<◌, ◌≤◌, List, [], ◌∷◌, ◌++◌, true, false, ℤ, pos, negsuc, refl, sym, ap, subst, ◌∙◌, inl, inr, arith}
use Rattle.std.specs.Prelude.{FitsSigned, Result, Ok, Err, ◌↔◌, ◌≢◌}
use Rattle.std.specs.Int.{w64, byte_at, bytes_high_first}
use Rattle.std.specs.declared.cmp.Ordering.TheVariants.{Less, Equal, Greater}
use Rattle.std.specs.Ordering.{nat_cmp, int_cmp, ordering_then}
use Rattle.std.specs.Cmp.Lexicographic.{slice_cmp}
use Rattle.std.proofs.lemmas.Bool.{cases_lt}
use Rattle.std.proofs.lemmas.Bool.Decides.{nat_tests}
use Rattle.std.proofs.lemmas.Int.{ints}
use Rattle.std.proofs.Math.Nat.{mod-eq_of_lt, mod-lt, mul-le-mul_right, one-le-pow}
use Rattle.byteorder.specs.Endian.{big_from}
use Rattle.byteorder.specs.Numbers.{big_from-cons, big_from-bytes}
use Rattle.al_value.specs.Field.{raised, field_bytes, IsNoField}
use Rattle.al_value.specs.Text.{IsText}
use Rattle.al_value.specs.Value.{IsValue, value_cmp}
use Rattle.al_value.specs.declared.field.FieldFault.{FieldFault}
use Rattle.al_value.specs.declared.field.FieldFault.TheVariants.{BadField}
use Rattle.al_value.specs.declared.value.Value.{Value}
use Rattle.al_value.specs.declared.value.Value.TheVariants as V

-- a number below a power of 256 is its highest byte there and the number below the next power
mod-bytes : (n x : ℕ) → x % 256 ^ suc n ≡ byte_at n x * 256 ^ n + x % 256 ^ n
mod-bytes n x =
    let rest : big_from 1 n (bytes_high_first (suc n) x ++ []) ≡ x % 256 ^ n =
    big_from-cons 0 n (byte_at n x) (bytes_high_first n x ++ []) ∙ big_from-bytes n x [] in
    sym (big_from-bytes (suc n) x []) ∙ ap (λ (r : ℕ). byte_at n x * 256 ^ n + r) rest

nat_cmp-lt : (x y : ℕ) → x < y → nat_cmp x y ≡ Less
nat_cmp-lt x y h = grind (arith, nat_tests)

nat_cmp-gt : (x y : ℕ) → y < x → nat_cmp x y ≡ Greater
nat_cmp-gt x y h = grind (arith, nat_tests)

nat_cmp-refl : (x : ℕ) → nat_cmp x x ≡ Equal
nat_cmp-refl x = grind (arith, nat_tests)

nat_cmp-plus : (k x y : ℕ) → nat_cmp (k + x) (k + y) ≡ nat_cmp x y
nat_cmp-plus k x y = grind (arith, nat_tests)

-- two numbers are ordered by their first digits, and then by the rest
nat_cmp-digits : (c a b r s : ℕ) → r < c → s < c → nat_cmp (a * c + r) (b * c + s) ≡ ordering_then (nat_cmp a b) (nat_cmp r s)
nat_cmp-digits c a b r s low high =
    elim (cases_lt a b) [
      | inl less ↦
          let above : (a + 1) * c ≤ b * c = mul-le-mul_right c (omega arith) in
          rw (nat_cmp-lt a b less, nat_cmp-lt (a * c + r) (b * c + s) (omega arith)) refl
      | inr no_less ↦
          elim (cases_lt b a) [
            | inl more ↦
                let above : (b + 1) * c ≤ a * c = mul-le-mul_right c (omega arith) in
                rw (nat_cmp-gt a b more, nat_cmp-gt (a * c + r) (b * c + s) (omega arith)) refl
            | inr no_more ↦
                let same : a ≡ b = omega arith in
                rw (same, nat_cmp-refl b) (nat_cmp-plus (b * c) r s)
          ]
    ]

-- bytes, the highest first, are ordered as the numbers that they are
slice_cmp-bytes : (n x y : ℕ) → slice_cmp nat_cmp (bytes_high_first n x) (bytes_high_first n y) ≡ nat_cmp (x % 256 ^ n) (y % 256 ^ n)
slice_cmp-bytes zero x y =
    let left : x % 1 ≡ 0 = omega arith in
    let right : y % 1 ≡ 0 = omega arith in
    rw (left, right) refl
slice_cmp-bytes (suc n) x y =
    let some : 1 ≤ 256 ^ n = one-le-pow n 256 (omega arith) in
    let low = mod-lt x {m = 256 ^ n} (omega arith) in
    let high = mod-lt y {m = 256 ^ n} (omega arith) in
    rw (slice_cmp-bytes n x y, mod-bytes n x, mod-bytes n y) (sym (nat_cmp-digits (256 ^ n) (byte_at n x) (byte_at n y) (x % 256 ^ n) (y % 256 ^ n) low high))

raised-lt : (z : ℤ) → FitsSigned w64 z → raised z < 2 ^ 64
raised-lt (pos n) fits = omega (arith, ints, fits)
raised-lt (negsuc n) fits = omega (arith, ints, fits)

-- the offset keeps the order
nat_cmp-raised : (a b : ℤ) → FitsSigned w64 a → FitsSigned w64 b → nat_cmp (raised a) (raised b) ≡ int_cmp a b
nat_cmp-raised (pos m) (pos n) p q = grind (arith, nat_tests, ints)
nat_cmp-raised (pos m) (negsuc n) p q = grind (arith, nat_tests, ints)
nat_cmp-raised (negsuc m) (pos n) p q = grind (arith, nat_tests, ints)
nat_cmp-raised (negsuc m) (negsuc n) p q = grind (arith, nat_tests, ints)

-- ints are ordered as their fields are
slice_cmp-ints : (a b : ℤ) → FitsSigned w64 a → FitsSigned w64 b → slice_cmp nat_cmp (field_bytes (V.Int a)) (field_bytes (V.Int b)) ≡ int_cmp a b
slice_cmp-ints a b p q =
    let left : raised a % 256 ^ 8 ≡ raised a = mod-eq_of_lt (raised-lt a p) in
    let right : raised b % 256 ^ 8 ≡ raised b = mod-eq_of_lt (raised-lt b q) in
    slice_cmp-bytes 8 (raised a) (raised b) ∙ rw (left, right) (nat_cmp-raised a b p q)

-- the fields of two values are ordered as the values
pub slice_cmp-field_bytes : (v w : Value) → IsValue v → IsValue w → slice_cmp nat_cmp (field_bytes v) (field_bytes w) ≡ value_cmp v w
slice_cmp-field_bytes v w p q = grind (arith, nat_tests, slice_cmp-ints)

pub through : {A B C : Type 0} → (A ↔ B) → (B ↔ C) → A ↔ C
through ab bc = (λ a. bc.0 (ab.0 a), λ c. ab.1 (bc.1 c))

-- the answer of a reader that gives this value
abbrev given : Value → Result Value FieldFault
given v = Ok v

-- a value is the right answer where the bytes are its field
pub reads_as : (v : Value) (bytes : List ℕ) → IsValue v → field_bytes v ≡ bytes → (given v ≡ Err BadField) ↔ IsNoField bytes
reads_as v bytes valid is = (λ e. cc, λ none. absurd (none v valid is))

-- a field that begins with 0, 1 or 2 has no more bytes
one_byte : (v : Value) (tag : ℕ) (rest : List ℕ) → tag < 3 → field_bytes v ≡ tag ∷ rest → rest ≡ []
one_byte V.Null tag rest low e = cc
one_byte (V.Bool false) tag rest low e = cc
one_byte (V.Bool true) tag rest low e = cc
one_byte (V.Int z) tag rest low e = let same : 3 ≡ tag = cc in absurd (omega arith)
one_byte (V.Text bytes) tag rest low e = let same : 4 ≡ tag = cc in absurd (omega arith)

pub no_more_bytes : (v : Value) (tag : ℕ) (rest : List ℕ) → IsValue v → tag < 3 → field_bytes v ≡ tag ∷ [] → (rest ≢ []) ↔ IsNoField (tag ∷ rest)
no_more_bytes v tag rest valid low is =
    (λ some w p e. some (one_byte w tag rest low e), λ none empty. none v valid (is ∙ ap (λ (r : List ℕ). tag ∷ r) (sym empty)))

-- only a text has a field that begins with 4
text_in : (v : Value) (tag : ℕ) (rest : List ℕ) → tag ≡ 4 → IsValue v → field_bytes v ≡ tag ∷ rest → IsText rest
text_in V.Null tag rest is p e = absurd (cc)
text_in (V.Bool false) tag rest is p e = absurd (cc)
text_in (V.Bool true) tag rest is p e = absurd (cc)
text_in (V.Int z) tag rest is p e = absurd (cc)
text_in (V.Text bytes) tag rest is p e = let same : bytes ≡ rest = cc in subst IsText same p

pub no_text : (tag : ℕ) (rest : List ℕ) → tag ≡ 4 → (¬ IsText rest) ↔ IsNoField (tag ∷ rest)
no_text tag rest is =
    (λ no v p e. no (text_in v tag rest is p e), λ none t. none (V.Text rest) t (ap (λ (k : ℕ). k ∷ rest) (sym is)))
