-- What functions make of values of the program are such values.
use Rattle.std.proofs.Common.{◌≡◌, ◌≤◌, ◌+◌, ℕ, zero, suc, ℤ, pos, negsuc, ◌+ℤ◌, ◌-ℤ◌, ◌*ℤ◌, Bool, true, false, List, [], ◌∷◌, ◌++◌, map, length, refl, ap, sym, subst, ◌∙◌, arith}
use Rattle.std.specs.Prelude.{FitsSigned, IsUtf8, int_div, int_rem, neg_ℤ, ◌≤ℤ◌, nat_lt, nat_le, if◌then◌else◌, ◌^◌, ◌-◌, Option, Some, None}
use Rattle.std.specs.Int.{w64}
use Rattle.std.specs.Str.{chars}
use Rattle.std.specs.Char.{to_ascii_lowercase}
use Rattle.std.specs.List.{AllByRecursion, flat_map, range_with_len}
use Rattle.std.proofs.lemmas.Int.{ints}
use Rattle.std.specs.Int.Signed.{mag_rem}
use Rattle.std.proofs.lemmas.Bool.{leb-true}
use Rattle.hy_job.proofs.Boxes.{both}
use Rattle.std.proofs.lemmas.List.{length-map}
use Rattle.std.proofs.lemmas.Str.{IsUtf8-append, encodes-chars, length-le-encodes}
use Rattle.al_value.specs.Value.{IsValue, eq3}
use Rattle.al_value.specs.declared.value.Value.{Value}
use Rattle.al_value.specs.declared.value.Value.TheVariants as V
use Rattle.al_func.specs.declared.func.Func.{Func}
use Rattle.al_func.specs.declared.func.Func.TheVariants as F
use Rattle.al_func.specs.Func.{apply, truth, and3, or3, not3, is_i64, fitted, quotient, remainder, add, sub, mul, div, modulo, neg, fitted_text, concat, length_of, substr, lower_ascii, is_true, is_null, cmp3, is_less, is_at_most}
use Rattle.al_func.proofs.TextLaws.{length-piece}
use Rattle.al_func.specs.declared.rex.Rex.{Rex, roll-Rex, map-Rex, ind-Rex, fold-roll-Rex}
use Rattle.al_func.specs.declared.rex.Rex.TheVariants as R
use Rattle.al_func.specs.declared.rex.Rex.TheOpen as L
use Rattle.al_func.specs.Rex.{eval_rex}
use Rattle.al_func.specs.Items.{ints_from, span, range, split, pieces}
use Rattle.al_func.proofs.RexLaws.{eval_rex-Col, eval_rex-Lit, eval_rex-Call}
use Rattle.hy_job.specs.declared.nested.GenRex.{GenRex}
use Rattle.hy_job.specs.declared.nested.GenRex.TheVariants as G
use Rattle.hy_job.specs.Columns.{Row, column, items}
use Rattle.hy_job.specs.Literals.{literals, literals_step, gen_literals}
use Rattle.hy_job.proofs.RunRows.{all_halves}
use Rattle.hy_job.proofs.TextValues.{lower_utf8, piece_utf8, pieces_utf8, pieces_short}

-- ---- ints and texts

pub fits_from : (z : ℤ) → is_i64 z ≡ true → FitsSigned w64 z
fits_from (pos n) e = record { sfits = let low = leb-true n (2 ^ 63 - 1) e in omega (arith, low) }
fits_from (negsuc n) e = record { sfits = let low = leb-true n (2 ^ 63 - 1) (both _ _ e).0 in omega (arith, low) }

chosen_valid : (b : Bool) (v w : Value) → (b ≡ true → IsValue v) → IsValue w → IsValue (if b then v else w)
chosen_valid true v w h g = h refl
chosen_valid false v w h g = g

fitted_valid : (z : ℤ) → IsValue (fitted z)
fitted_valid z = chosen_valid (is_i64 z) (V.Int z) V.Null (fits_from z) tt

text_valid : (bytes : List ℕ) → IsUtf8 bytes → IsValue (fitted_text bytes)
text_valid bytes u = chosen_valid (nat_le (length bytes) 32000) (V.Text bytes) V.Null (λ e. (u, leb-true (length bytes) 32000 e)) tt

truth_valid : (b : Option Bool) → IsValue (truth b)
truth_valid None = tt
truth_valid (Some b) = tt

and3_valid : (a b : Value) → IsValue (and3 a b)
and3_valid V.Null V.Null = tt
and3_valid V.Null (V.Bool true) = tt
and3_valid V.Null (V.Bool false) = tt
and3_valid V.Null (V.Int b) = tt
and3_valid V.Null (V.Text b) = tt
and3_valid (V.Bool true) V.Null = tt
and3_valid (V.Bool true) (V.Bool true) = tt
and3_valid (V.Bool true) (V.Bool false) = tt
and3_valid (V.Bool true) (V.Int b) = tt
and3_valid (V.Bool true) (V.Text b) = tt
and3_valid (V.Bool false) V.Null = tt
and3_valid (V.Bool false) (V.Bool true) = tt
and3_valid (V.Bool false) (V.Bool false) = tt
and3_valid (V.Bool false) (V.Int b) = tt
and3_valid (V.Bool false) (V.Text b) = tt
and3_valid (V.Int a) V.Null = tt
and3_valid (V.Int a) (V.Bool true) = tt
and3_valid (V.Int a) (V.Bool false) = tt
and3_valid (V.Int a) (V.Int b) = tt
and3_valid (V.Int a) (V.Text b) = tt
and3_valid (V.Text a) V.Null = tt
and3_valid (V.Text a) (V.Bool true) = tt
and3_valid (V.Text a) (V.Bool false) = tt
and3_valid (V.Text a) (V.Int b) = tt
and3_valid (V.Text a) (V.Text b) = tt

or3_valid : (a b : Value) → IsValue (or3 a b)
or3_valid V.Null V.Null = tt
or3_valid V.Null (V.Bool true) = tt
or3_valid V.Null (V.Bool false) = tt
or3_valid V.Null (V.Int b) = tt
or3_valid V.Null (V.Text b) = tt
or3_valid (V.Bool true) V.Null = tt
or3_valid (V.Bool true) (V.Bool true) = tt
or3_valid (V.Bool true) (V.Bool false) = tt
or3_valid (V.Bool true) (V.Int b) = tt
or3_valid (V.Bool true) (V.Text b) = tt
or3_valid (V.Bool false) V.Null = tt
or3_valid (V.Bool false) (V.Bool true) = tt
or3_valid (V.Bool false) (V.Bool false) = tt
or3_valid (V.Bool false) (V.Int b) = tt
or3_valid (V.Bool false) (V.Text b) = tt
or3_valid (V.Int a) V.Null = tt
or3_valid (V.Int a) (V.Bool true) = tt
or3_valid (V.Int a) (V.Bool false) = tt
or3_valid (V.Int a) (V.Int b) = tt
or3_valid (V.Int a) (V.Text b) = tt
or3_valid (V.Text a) V.Null = tt
or3_valid (V.Text a) (V.Bool true) = tt
or3_valid (V.Text a) (V.Bool false) = tt
or3_valid (V.Text a) (V.Int b) = tt
or3_valid (V.Text a) (V.Text b) = tt

not3_valid : (a : Value) → IsValue (not3 a)
not3_valid V.Null = tt
not3_valid (V.Bool b) = tt
not3_valid (V.Int z) = tt
not3_valid (V.Text t) = tt

add_valid : (a b : Value) → IsValue (add a b)
add_valid V.Null V.Null = tt
add_valid V.Null (V.Bool y) = tt
add_valid V.Null (V.Int b) = tt
add_valid V.Null (V.Text y) = tt
add_valid (V.Bool x) V.Null = tt
add_valid (V.Bool x) (V.Bool y) = tt
add_valid (V.Bool x) (V.Int b) = tt
add_valid (V.Bool x) (V.Text y) = tt
add_valid (V.Int a) V.Null = tt
add_valid (V.Int a) (V.Bool y) = tt
add_valid (V.Int a) (V.Int b) = fitted_valid (a +ℤ b)
add_valid (V.Int a) (V.Text y) = tt
add_valid (V.Text x) V.Null = tt
add_valid (V.Text x) (V.Bool y) = tt
add_valid (V.Text x) (V.Int b) = tt
add_valid (V.Text x) (V.Text y) = tt

sub_valid : (a b : Value) → IsValue (sub a b)
sub_valid V.Null V.Null = tt
sub_valid V.Null (V.Bool y) = tt
sub_valid V.Null (V.Int b) = tt
sub_valid V.Null (V.Text y) = tt
sub_valid (V.Bool x) V.Null = tt
sub_valid (V.Bool x) (V.Bool y) = tt
sub_valid (V.Bool x) (V.Int b) = tt
sub_valid (V.Bool x) (V.Text y) = tt
sub_valid (V.Int a) V.Null = tt
sub_valid (V.Int a) (V.Bool y) = tt
sub_valid (V.Int a) (V.Int b) = fitted_valid (a -ℤ b)
sub_valid (V.Int a) (V.Text y) = tt
sub_valid (V.Text x) V.Null = tt
sub_valid (V.Text x) (V.Bool y) = tt
sub_valid (V.Text x) (V.Int b) = tt
sub_valid (V.Text x) (V.Text y) = tt

mul_valid : (a b : Value) → IsValue (mul a b)
mul_valid V.Null V.Null = tt
mul_valid V.Null (V.Bool y) = tt
mul_valid V.Null (V.Int b) = tt
mul_valid V.Null (V.Text y) = tt
mul_valid (V.Bool x) V.Null = tt
mul_valid (V.Bool x) (V.Bool y) = tt
mul_valid (V.Bool x) (V.Int b) = tt
mul_valid (V.Bool x) (V.Text y) = tt
mul_valid (V.Int a) V.Null = tt
mul_valid (V.Int a) (V.Bool y) = tt
mul_valid (V.Int a) (V.Int b) = fitted_valid (a *ℤ b)
mul_valid (V.Int a) (V.Text y) = tt
mul_valid (V.Text x) V.Null = tt
mul_valid (V.Text x) (V.Bool y) = tt
mul_valid (V.Text x) (V.Int b) = tt
mul_valid (V.Text x) (V.Text y) = tt

quotient_valid : (a b : ℤ) → IsValue (quotient a b)
quotient_valid a (pos zero) = tt
quotient_valid a (pos (suc n)) = fitted_valid (int_div a (pos (suc n)))
quotient_valid a (negsuc n) = fitted_valid (int_div a (negsuc n))

remainder_fits : (a b : ℤ) → FitsSigned w64 a → FitsSigned w64 (int_rem a b)
remainder_fits a b f = record { sfits = let low = mag_rem a b in let high = f.sfits in omega (arith, low, high) }

remainder_valid : (a b : ℤ) → FitsSigned w64 a → IsValue (remainder a b)
remainder_valid a (pos zero) f = tt
remainder_valid a (pos (suc n)) f = chosen_valid (is_i64 (int_div a (pos (suc n)))) (V.Int (int_rem a (pos (suc n)))) V.Null (λ e. remainder_fits a (pos (suc n)) f) tt
remainder_valid a (negsuc n) f = chosen_valid (is_i64 (int_div a (negsuc n))) (V.Int (int_rem a (negsuc n))) V.Null (λ e. remainder_fits a (negsuc n) f) tt

div_valid : (a b : Value) → IsValue (div a b)
div_valid V.Null V.Null = tt
div_valid V.Null (V.Bool y) = tt
div_valid V.Null (V.Int b) = tt
div_valid V.Null (V.Text y) = tt
div_valid (V.Bool x) V.Null = tt
div_valid (V.Bool x) (V.Bool y) = tt
div_valid (V.Bool x) (V.Int b) = tt
div_valid (V.Bool x) (V.Text y) = tt
div_valid (V.Int a) V.Null = tt
div_valid (V.Int a) (V.Bool y) = tt
div_valid (V.Int a) (V.Int b) = quotient_valid a b
div_valid (V.Int a) (V.Text y) = tt
div_valid (V.Text x) V.Null = tt
div_valid (V.Text x) (V.Bool y) = tt
div_valid (V.Text x) (V.Int b) = tt
div_valid (V.Text x) (V.Text y) = tt

modulo_valid : (a b : Value) → IsValue a → IsValue (modulo a b)
modulo_valid V.Null V.Null h = tt
modulo_valid V.Null (V.Bool y) h = tt
modulo_valid V.Null (V.Int b) h = tt
modulo_valid V.Null (V.Text y) h = tt
modulo_valid (V.Bool x) V.Null h = tt
modulo_valid (V.Bool x) (V.Bool y) h = tt
modulo_valid (V.Bool x) (V.Int b) h = tt
modulo_valid (V.Bool x) (V.Text y) h = tt
modulo_valid (V.Int a) V.Null h = tt
modulo_valid (V.Int a) (V.Bool y) h = tt
modulo_valid (V.Int a) (V.Int b) h = remainder_valid a b h
modulo_valid (V.Int a) (V.Text y) h = tt
modulo_valid (V.Text x) V.Null h = tt
modulo_valid (V.Text x) (V.Bool y) h = tt
modulo_valid (V.Text x) (V.Int b) h = tt
modulo_valid (V.Text x) (V.Text y) h = tt

neg_valid : (a : Value) → IsValue (neg a)
neg_valid V.Null = tt
neg_valid (V.Bool b) = tt
neg_valid (V.Int z) = fitted_valid (neg_ℤ z)
neg_valid (V.Text t) = tt

concat_valid : (a b : Value) → IsValue a → IsValue b → IsValue (concat a b)
concat_valid V.Null V.Null h g = tt
concat_valid V.Null (V.Bool y) h g = tt
concat_valid V.Null (V.Int y) h g = tt
concat_valid V.Null (V.Text b) h g = tt
concat_valid (V.Bool x) V.Null h g = tt
concat_valid (V.Bool x) (V.Bool y) h g = tt
concat_valid (V.Bool x) (V.Int y) h g = tt
concat_valid (V.Bool x) (V.Text b) h g = tt
concat_valid (V.Int x) V.Null h g = tt
concat_valid (V.Int x) (V.Bool y) h g = tt
concat_valid (V.Int x) (V.Int y) h g = tt
concat_valid (V.Int x) (V.Text b) h g = tt
concat_valid (V.Text a) V.Null h g = tt
concat_valid (V.Text a) (V.Bool y) h g = tt
concat_valid (V.Text a) (V.Int y) h g = tt
concat_valid (V.Text a) (V.Text b) h g = text_valid (a ++ b) (IsUtf8-append a b h.0 g.0)

-- a text has no more characters than bytes
length_valid : (a : Value) → IsValue a → IsValue (length_of a)
length_valid V.Null h = tt
length_valid (V.Bool b) h = tt
length_valid (V.Int z) h = tt
length_valid (V.Text t) h = record { sfits = let few = length-le-encodes (chars t) in let same = ap length (encodes-chars t h.0) in let short = h.1 in omega (arith, few, same, short) }

substr_valid : (a b c : Value) → IsValue a → IsValue (substr a b c)
substr_valid V.Null b c h = tt
substr_valid (V.Bool x) b c h = tt
substr_valid (V.Int x) b c h = tt
substr_valid (V.Text t) V.Null c h = tt
substr_valid (V.Text t) (V.Bool y) c h = tt
substr_valid (V.Text t) (V.Int (negsuc y)) c h = tt
substr_valid (V.Text t) (V.Text y) c h = tt
substr_valid (V.Text t) (V.Int (pos start)) V.Null h = tt
substr_valid (V.Text t) (V.Int (pos start)) (V.Bool y) h = tt
substr_valid (V.Text t) (V.Int (pos start)) (V.Int (negsuc y)) h = tt
substr_valid (V.Text t) (V.Int (pos start)) (V.Text y) h = tt
substr_valid (V.Text t) (V.Int (pos start)) (V.Int (pos count)) h = (piece_utf8 t start count h.0, length-piece t start count h)

lower_valid : (a : Value) → IsValue a → IsValue (lower_ascii a)
lower_valid V.Null h = tt
lower_valid (V.Bool b) h = tt
lower_valid (V.Int z) h = tt
lower_valid (V.Text t) h = (lower_utf8 t h.0, subst (λ n. n ≤ 32000) (sym (length-map t to_ascii_lowercase)) h.1)

-- ---- calls

pub apply_valid : (f : Func) (args : List Value) → AllByRecursion IsValue args → IsValue (apply f args)
unfolding apply
apply_valid F.Eq [] h = tt
apply_valid F.Eq (a ∷ []) h = tt
apply_valid F.Eq (a ∷ b ∷ []) h = truth_valid (eq3 a b)
apply_valid F.Eq (a ∷ b ∷ c ∷ more) h = tt
apply_valid F.Lt [] h = tt
apply_valid F.Lt (a ∷ []) h = tt
apply_valid F.Lt (a ∷ b ∷ []) h = truth_valid (cmp3 is_less a b)
apply_valid F.Lt (a ∷ b ∷ c ∷ more) h = tt
apply_valid F.Le [] h = tt
apply_valid F.Le (a ∷ []) h = tt
apply_valid F.Le (a ∷ b ∷ []) h = truth_valid (cmp3 is_at_most a b)
apply_valid F.Le (a ∷ b ∷ c ∷ more) h = tt
apply_valid F.And [] h = tt
apply_valid F.And (a ∷ []) h = tt
apply_valid F.And (a ∷ b ∷ []) h = and3_valid a b
apply_valid F.And (a ∷ b ∷ c ∷ more) h = tt
apply_valid F.Or [] h = tt
apply_valid F.Or (a ∷ []) h = tt
apply_valid F.Or (a ∷ b ∷ []) h = or3_valid a b
apply_valid F.Or (a ∷ b ∷ c ∷ more) h = tt
apply_valid F.Not [] h = tt
apply_valid F.Not (a ∷ []) h = not3_valid a
apply_valid F.Not (a ∷ b ∷ more) h = tt
apply_valid F.Add [] h = tt
apply_valid F.Add (a ∷ []) h = tt
apply_valid F.Add (a ∷ b ∷ []) h = add_valid a b
apply_valid F.Add (a ∷ b ∷ c ∷ more) h = tt
apply_valid F.Sub [] h = tt
apply_valid F.Sub (a ∷ []) h = tt
apply_valid F.Sub (a ∷ b ∷ []) h = sub_valid a b
apply_valid F.Sub (a ∷ b ∷ c ∷ more) h = tt
apply_valid F.Mul [] h = tt
apply_valid F.Mul (a ∷ []) h = tt
apply_valid F.Mul (a ∷ b ∷ []) h = mul_valid a b
apply_valid F.Mul (a ∷ b ∷ c ∷ more) h = tt
apply_valid F.Div [] h = tt
apply_valid F.Div (a ∷ []) h = tt
apply_valid F.Div (a ∷ b ∷ []) h = div_valid a b
apply_valid F.Div (a ∷ b ∷ c ∷ more) h = tt
apply_valid F.Mod [] h = tt
apply_valid F.Mod (a ∷ []) h = tt
apply_valid F.Mod (a ∷ b ∷ []) h = modulo_valid a b h.0
apply_valid F.Mod (a ∷ b ∷ c ∷ more) h = tt
apply_valid F.Neg [] h = tt
apply_valid F.Neg (a ∷ []) h = neg_valid a
apply_valid F.Neg (a ∷ b ∷ more) h = tt
apply_valid F.Concat [] h = tt
apply_valid F.Concat (a ∷ []) h = tt
apply_valid F.Concat (a ∷ b ∷ []) h = concat_valid a b h.0 h.1.0
apply_valid F.Concat (a ∷ b ∷ c ∷ more) h = tt
apply_valid F.Length [] h = tt
apply_valid F.Length (a ∷ []) h = length_valid a h.0
apply_valid F.Length (a ∷ b ∷ more) h = tt
apply_valid F.Substr [] h = tt
apply_valid F.Substr (a ∷ []) h = tt
apply_valid F.Substr (a ∷ b ∷ []) h = tt
apply_valid F.Substr (a ∷ b ∷ c ∷ []) h = substr_valid a b c h.0
apply_valid F.Substr (a ∷ b ∷ c ∷ d ∷ more) h = tt
apply_valid F.LowerAscii [] h = tt
apply_valid F.LowerAscii (a ∷ []) h = lower_valid a h.0
apply_valid F.LowerAscii (a ∷ b ∷ more) h = tt
apply_valid F.If [] h = tt
apply_valid F.If (a ∷ []) h = tt
apply_valid F.If (a ∷ b ∷ []) h = tt
apply_valid F.If (a ∷ b ∷ c ∷ []) h = chosen_valid (is_true a) b c (λ e. h.1.0) h.1.1.0
apply_valid F.If (a ∷ b ∷ c ∷ d ∷ more) h = tt
apply_valid F.IsNull [] h = tt
apply_valid F.IsNull (a ∷ []) h = tt
apply_valid F.IsNull (a ∷ b ∷ more) h = tt
apply_valid F.Coalesce [] h = tt
apply_valid F.Coalesce (a ∷ []) h = tt
apply_valid F.Coalesce (a ∷ b ∷ []) h = chosen_valid (is_null a) b a (λ e. h.1.0) h.0
apply_valid F.Coalesce (a ∷ b ∷ c ∷ more) h = tt

-- ---- items

bounded : (z : ℤ) → negsuc (2 ^ 63 - 1) ≤ℤ z → z ≤ℤ pos (2 ^ 63 - 1) → FitsSigned w64 z
bounded (pos n) low high = record { sfits = omega (arith, ints, high) }
bounded (negsuc n) low high = record { sfits = omega (arith, ints, low) }

lowest : (z : ℤ) → FitsSigned w64 z → negsuc (2 ^ 63 - 1) ≤ℤ z
lowest (pos n) f = omega (arith, ints)
lowest (negsuc n) f = let low = f.sfits in omega (arith, ints, low)

highest : (z : ℤ) → FitsSigned w64 z → z ≤ℤ pos (2 ^ 63 - 1)
highest (pos n) f = let high = f.sfits in omega (arith, ints, high)
highest (negsuc n) f = omega (arith, ints)

-- an int between two of 64 bits
between : (a b : ℤ) (d k : ℕ) → FitsSigned w64 a → FitsSigned w64 b → b -ℤ a ≡ pos d → k ≤ d → FitsSigned w64 (a +ℤ pos k)
between a b d k f g e within =
    let low = lowest a f in
    let high = highest b g in
    bounded (a +ℤ pos k) (omega (arith, ints, low)) (omega (arith, ints, high, e, within))

ints_valid : (a b : ℤ) (d : ℕ) → FitsSigned w64 a → FitsSigned w64 b → b -ℤ a ≡ pos d → (k n : ℕ) → k + n ≤ suc d → AllByRecursion IsValue (map (λ j. V.Int (a +ℤ pos j)) (range_with_len k n))
ints_valid a b d f g e k zero low = tt
ints_valid a b d f g e k (suc n) low = (between a b d k f g e (omega (arith, low)), ints_valid a b d f g e (k + 1) n (omega (arith, low)))

span_valid : (a b : ℤ) (gap : ℤ) → b -ℤ a ≡ gap → FitsSigned w64 a → FitsSigned w64 b → AllByRecursion IsValue (ints_from a (span gap))
span_valid a b (negsuc d) e f g = tt
span_valid a b (pos d) e f g = by (nat_lt d 10000)
  where
    by : (t : Bool) → AllByRecursion IsValue (ints_from a (if t then suc d else 0))
    by true = ints_valid a b d f g e 0 (suc d) (omega arith)
    by false = tt

range_valid : (a b : Value) → IsValue a → IsValue b → AllByRecursion IsValue (range a b)
range_valid V.Null V.Null h g = tt
range_valid V.Null (V.Bool y) h g = tt
range_valid V.Null (V.Int b) h g = tt
range_valid V.Null (V.Text y) h g = tt
range_valid (V.Bool x) V.Null h g = tt
range_valid (V.Bool x) (V.Bool y) h g = tt
range_valid (V.Bool x) (V.Int b) h g = tt
range_valid (V.Bool x) (V.Text y) h g = tt
range_valid (V.Int a) V.Null h g = tt
range_valid (V.Int a) (V.Bool y) h g = tt
range_valid (V.Int a) (V.Int b) h g = span_valid a b (b -ℤ a) refl h g
range_valid (V.Int a) (V.Text y) h g = tt
range_valid (V.Text x) V.Null h g = tt
range_valid (V.Text x) (V.Bool y) h g = tt
range_valid (V.Text x) (V.Int b) h g = tt
range_valid (V.Text x) (V.Text y) h g = tt

texts_valid : (n : ℕ) → n ≤ 32000 → (ps : List (List ℕ)) → AllByRecursion IsUtf8 ps → AllByRecursion (λ p. length p ≤ n) ps → AllByRecursion IsValue (map V.Text ps)
texts_valid n low [] u h = tt
texts_valid n low (p ∷ ps) u h = ((u.0, omega (arith, low, h.0)), texts_valid n low ps u.1 h.1)

split_valid : (a b : Value) → IsValue a → IsValue b → AllByRecursion IsValue (split a b)
split_valid V.Null V.Null h g = tt
split_valid V.Null (V.Bool y) h g = tt
split_valid V.Null (V.Int y) h g = tt
split_valid V.Null (V.Text y) h g = tt
split_valid (V.Bool x) V.Null h g = tt
split_valid (V.Bool x) (V.Bool y) h g = tt
split_valid (V.Bool x) (V.Int y) h g = tt
split_valid (V.Bool x) (V.Text y) h g = tt
split_valid (V.Int x) V.Null h g = tt
split_valid (V.Int x) (V.Bool y) h g = tt
split_valid (V.Int x) (V.Int y) h g = tt
split_valid (V.Int x) (V.Text y) h g = tt
split_valid (V.Text t) V.Null h g = tt
split_valid (V.Text t) (V.Bool y) h g = tt
split_valid (V.Text t) (V.Int y) h g = tt
split_valid (V.Text t) (V.Text []) h g = (h, tt)
split_valid (V.Text t) (V.Text (s ∷ ss)) h g = texts_valid (length t) h.1 (pieces (s ∷ ss) 0 t) (pieces_utf8 s ss t g.0 h.0) (pieces_short (s ∷ ss) 0 t)

-- ---- expressions and items over rows of values

pub col_valid : (row : Row) (j : ℕ) → AllByRecursion IsValue row → IsValue (column row j)
col_valid [] zero h = tt
col_valid [] (suc j) h = tt
col_valid (v ∷ row) zero h = h.0
col_valid (v ∷ row) (suc j) h = col_valid row j h.1

literals-roll : (x : L.Rex-F Rex) → literals (roll-Rex x) ≡ literals_step (map-Rex Rex (List Value) literals x)
unfolding literals
literals-roll x = fold-roll-Rex (List Value) literals_step x

abbrev Stays : Rex → Type 0
Stays e = AllByRecursion IsValue (literals e) → (row : Row) → AllByRecursion IsValue row → IsValue (eval_rex e row)

module _ {S : Type 0} (up : S → Rex) (ih : (s : S) → Stays (up s)) where
  args_valid : (xs : List S) (row : Row) → AllByRecursion IsValue row → AllByRecursion IsValue (flat_map (λ a. a) (map literals (map up xs))) → AllByRecursion IsValue (map (λ e. eval_rex e row) (map up xs))
  args_valid [] row r h = tt
  args_valid (x ∷ xs) row r h = let both = all_halves IsValue (literals (up x)) _ h in (ih x both.0 row r, args_valid xs row r both.1)

  layer_valid : (y : L.Rex-F S) → Stays (roll-Rex (map-Rex S Rex up y))
  layer_valid (L.Col j) h row r = subst IsValue (sym (eval_rex-Col j row) ∙ ap (λ e. eval_rex e row) (sym (R.rolls-Col j))) (col_valid row j r)
  layer_valid (L.Lit v) h row r = subst IsValue (sym (eval_rex-Lit v row) ∙ ap (λ e. eval_rex e row) (sym (R.rolls-Lit v))) (subst (AllByRecursion IsValue) (literals-roll (L.Lit v)) h).0
  layer_valid (L.Call f xs) h row r =
      subst IsValue (sym (eval_rex-Call f (map up xs) row) ∙ ap (λ e. eval_rex e row) (sym (R.rolls-Call f (map up xs))))
      (apply_valid f (map (λ e. eval_rex e row) (map up xs)) (args_valid xs row r (subst (AllByRecursion IsValue) (literals-roll (L.Call f (map up xs))) h)))

eval_stays : (e : Rex) → Stays e
eval_stays = ind-Rex Stays (λ x y e. subst (λ (z : L.Rex-F Rex). Stays (roll-Rex z)) e (layer_valid (λ s. s.0) (λ s. s.1) y))

pub eval_valid : (e : Rex) → AllByRecursion IsValue (literals e) → (row : Row) → AllByRecursion IsValue row → IsValue (eval_rex e row)
eval_valid = eval_stays

pub items_valid : (g : GenRex) → AllByRecursion IsValue (gen_literals g) → (row : Row) → AllByRecursion IsValue row → AllByRecursion IsValue (items g row)
unfolding items
items_valid (G.Range a b) h row r = let both = all_halves IsValue (literals a) (literals b) h in range_valid _ _ (eval_valid a both.0 row r) (eval_valid b both.1 row r)
items_valid (G.Split t s) h row r = let both = all_halves IsValue (literals t) (literals s) h in split_valid _ _ (eval_valid t both.0 row r) (eval_valid s both.1 row r)
