-- The two halves of a number of 128 bits.
use Rattle.std.specs.Prelude.{ℕ, ◌+◌, ◌*◌, ◌/◌, ◌%◌, ◌^◌, ◌<◌, ℤ, pos, negsuc, FitsSigned}
use Rattle.std.specs.Int.{w64, w128, cast_signed, cast_unsigned}
use Rattle.std.proofs.Common.{◌≡◌, refl, sym, ◌∙◌, ap, arith, rules}
use Rattle.std.proofs.lemmas.Int.{ints, of_z-to_z, to_z-of_z}
use Rattle.al_agg.specs.Part.{high_half, low_half}

pub bits_64-lt : (z : ℤ) → FitsSigned w64 z → cast_unsigned w64 z < 2 ^ 64
bits_64-lt (pos n) fits = omega (arith, ints, fits)
bits_64-lt (negsuc n) fits = omega (arith, ints, fits)

bits_128-lt : (z : ℤ) → FitsSigned w128 z → cast_unsigned w128 z < 2 ^ 128
bits_128-lt (pos n) fits = omega (arith, ints, fits)
bits_128-lt (negsuc n) fits = omega (arith, ints, fits)

upper : (h l : ℕ) → l < 2 ^ 64 → (h * 2 ^ 64 + l) / 2 ^ 64 ≡ h
upper h l low = omega arith

lower : (h l : ℕ) → l < 2 ^ 64 → (h * 2 ^ 64 + l) % 2 ^ 64 ≡ l
lower h l low = omega arith

pub both : (h l : ℕ) → h < 2 ^ 64 → l < 2 ^ 64 → h * 2 ^ 64 + l < 2 ^ 128
both h l high low = omega arith

-- the number of two halves has these halves
pub high_half-from : (high low : ℤ) → FitsSigned w64 high → FitsSigned w64 low → high_half (cast_signed w128 (cast_unsigned w64 high * 2 ^ 64 + cast_unsigned w64 low)) ≡ high
unfolding high_half
high_half-from high low p q =
    let h = cast_unsigned w64 high in
    let l = cast_unsigned w64 low in
    let fits : h * 2 ^ 64 + l < 2 ^ 128 = both h l (bits_64-lt high p) (bits_64-lt low q) in
    rw (of_z-to_z w128 (h * 2 ^ 64 + l) fits, upper h l (bits_64-lt low q)) (to_z-of_z w64 high p)

pub low_half-from : (high low : ℤ) → FitsSigned w64 high → FitsSigned w64 low → low_half (cast_signed w128 (cast_unsigned w64 high * 2 ^ 64 + cast_unsigned w64 low)) ≡ low
unfolding low_half
low_half-from high low p q =
    let h = cast_unsigned w64 high in
    let l = cast_unsigned w64 low in
    let fits : h * 2 ^ 64 + l < 2 ^ 128 = both h l (bits_64-lt high p) (bits_64-lt low q) in
    rw (of_z-to_z w128 (h * 2 ^ 64 + l) fits, lower h l (bits_64-lt low q)) (to_z-of_z w64 low q)

-- a number has no other's halves
pub halves-injective : (a b : ℤ) → FitsSigned w128 a → FitsSigned w128 b → high_half a ≡ high_half b → low_half a ≡ low_half b → a ≡ b
unfolding high_half low_half
halves-injective a b p q highs lows =
    let m = cast_unsigned w128 a in
    let n = cast_unsigned w128 b in
    let m_fits : m < 2 ^ 128 = bits_128-lt a p in
    let n_fits : n < 2 ^ 128 = bits_128-lt b q in
    let high : m / 2 ^ 64 ≡ n / 2 ^ 64 = sym (of_z-to_z w64 (m / 2 ^ 64) (omega arith)) ∙ ap (cast_unsigned w64) highs ∙ of_z-to_z w64 (n / 2 ^ 64) (omega arith) in
    let low : m % 2 ^ 64 ≡ n % 2 ^ 64 = sym (of_z-to_z w64 (m % 2 ^ 64) (omega arith)) ∙ ap (cast_unsigned w64) lows ∙ of_z-to_z w64 (n % 2 ^ 64) (omega arith) in
    let same : m ≡ n = omega arith in
    sym (to_z-of_z w128 a p) ∙ ap (cast_signed w128) same ∙ to_z-of_z w128 b q

pub high_half-fits : (z : ℤ) → FitsSigned w64 (high_half z)
unfolding high_half
high_half-fits z = search (rules, ints)

pub low_half-fits : (z : ℤ) → FitsSigned w64 (low_half z)
unfolding low_half
low_half-fits z = search (rules, ints)

pub high_half-zero : high_half (pos 0) ≡ pos 0
unfolding high_half
high_half-zero = refl

pub low_half-zero : low_half (pos 0) ≡ pos 0
unfolding low_half
low_half-zero = refl

pub ruleset zero_laws = (high_half-zero, low_half-zero)
