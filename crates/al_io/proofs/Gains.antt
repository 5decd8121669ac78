-- A loop's step over what is told.
use Rattle.std.proofs.Common.{◌≡◌, ℕ, ◌+◌, ◌-◌, ◌≤◌, [], ◌++◌, take, drop, length, Option, None, Some, ap, sym, subst, ◌∙◌, append_assoc, arith, length-drop, length-append}
use Rattle.std.specs.Prelude.{true, false}
use Rattle.std.proofs.lemmas.List.{length-take-le, take_all}
use Rattle.std.proofs.lemmas.Grind.{common_steps}
use Rattle.std.proofs.Math.Seq.{take-add, drop-drop}
use Rattle.al_value.specs.Outside.{Told}
use Rattle.al_io.specs.Outside.{Bytes, Moves, IsWholeOf}

pub told_at : {X : Type 0} (o : Option X) (x : X) (P : X → Type 0) → o ≡ Some x → Told o P → P x
told_at {X} o x P e h = let Q : Option X → Type 0 = λ p. Told p P in subst Q e h

gained : (old bytes : Bytes) (w1 w2 : Option Bytes) (at n : ℕ) → w1 ≡ Some (old ++ take at bytes) → Told w1 (λ was. w2 ≡ Some (was ++ take n (drop at bytes))) → w2 ≡ Some (old ++ take (at + n) bytes)
gained old bytes w1 w2 at n e h = told_at w1 (old ++ take at bytes) (λ was. w2 ≡ Some (was ++ take n (drop at bytes))) e h ∙ ap Some (append_assoc old (take at bytes) (take n (drop at bytes)) ∙ ap (λ ys. old ++ ys) (sym (take-add at n bytes)))

-- the piece is what follows the first `at` bytes
pub gains_more : (w0 w1 w2 : Option Bytes) (bytes piece : Bytes) (at n : ℕ) → piece ≡ drop at bytes → Told w0 (λ old. w1 ≡ Some (old ++ take at bytes)) → Told w1 (λ was. w2 ≡ Some (was ++ take n piece)) → Told w0 (λ old. w2 ≡ Some (old ++ take (at + n) bytes))
gains_more None w1 w2 bytes piece at n e h k = tt
gains_more (Some old) w1 w2 bytes piece at n e h k = gained old bytes w1 w2 at n h (subst (λ (p : Bytes). Told w1 (λ was. w2 ≡ Some (was ++ take n p))) e k)

pub take-rest : (at : ℕ) (bytes : Bytes) → take (length bytes - at) (drop at bytes) ≡ drop at bytes
take-rest at bytes = grind (arith, common_steps)

read_more_at : (whole read buf : Bytes) (r1 r2 : Option Bytes) (n : ℕ) → (length read ≤ length whole) × (read ≡ take (length read) whole) × (r1 ≡ Some (drop (length read) whole)) → Moves r1 r2 buf n
    → (length (read ++ take n buf) ≤ length whole) × (read ++ take n buf ≡ take (length (read ++ take n buf)) whole) × (r2 ≡ Some (drop (length (read ++ take n buf)) whole))
read_more_at whole read buf r1 r2 n h k =
    let m = told_at r1 (drop (length read) whole) (λ rest. (n ≤ length rest) × (take n buf ≡ take n rest) × (r2 ≡ Some (drop n rest)) × (n ≡ 0 → rest ≡ [])) h.2 k in
    let both : read ++ take n buf ≡ take (length read + n) whole = rw (take-add, m.1) (ap (λ ys. ys ++ take n (drop (length read) whole)) h.1) in
    let many : length (read ++ take n buf) ≡ length read + n = rw m.1 (length-append read (take n (drop (length read) whole)) ∙ ap (λ k. length read + k) (length-take-le n (drop (length read) whole) m.0)) in
    let next : r2 ≡ Some (drop (length read + n) whole) = m.2 ∙ ap Some (drop-drop n (length read) whole) in
    rw many (omega (arith, length-drop (length read) whole, m.0), both, next)

-- what was read so far stands at the front of the rest at entry
abbrev pub IsReadOf : Bytes → Option Bytes → Bytes → Type 0
IsReadOf read now whole = (length read ≤ length whole) × (read ≡ take (length read) whole) × (now ≡ Some (drop (length read) whole))

pub read_more : (w0 r1 r2 : Option Bytes) (read buf : Bytes) (n : ℕ) → Told w0 (IsReadOf read r1) → Moves r1 r2 buf n → Told w0 (IsReadOf (read ++ take n buf) r2)
read_more None r1 r2 read buf n h k = tt
read_more (Some whole) r1 r2 read buf n h k = read_more_at whole read buf r1 r2 n h k

-- the end came: all was read
pub read_all : (w0 r1 r2 : Option Bytes) (read buf : Bytes) (n : ℕ) → n ≡ 0 → Told w0 (IsReadOf read r1) → Moves r1 r2 buf n → Told w0 (IsWholeOf false read)
read_all None r1 r2 read buf n e h k = tt
read_all (Some whole) r1 r2 read buf n e h k =
    let m = told_at r1 (drop (length read) whole) (λ rest. (n ≤ length rest) × (take n buf ≡ take n rest) × (r2 ≡ Some (drop n rest)) × (n ≡ 0 → rest ≡ [])) h.2 k in
    let left = length-drop (length read) whole in
    let none = ap length (m.3 e) in
    let few : length whole ≤ length read = omega arith in
    h.1 ∙ take_all (length read) whole few

pub read_past : (w0 r : Option Bytes) (read : Bytes) → Told w0 (IsReadOf read r) → Told w0 (IsWholeOf true read)
read_past None r read h = tt
read_past (Some whole) r read h = h.1
