-- Numbers of 4 bytes.
use Rattle.std.proofs.Common.{◌≡◌, ℕ, ◌+◌, ◌*◌, ◌/◌, ◌%◌, ◌^◌, ◌<◌, ◌≤◌, List, [], ◌∷◌, ◌++◌, length, take, get_or, refl, arith}
use Rattle.byteorder.specs.Numbers.{big_number-reads_back, length-bytes_high_first}
use Rattle.hy_frame.specs.Word.{word_bytes, word_in}

pub length-word_bytes : (n : ℕ) → length (word_bytes n) ≡ 4
unfolding word_bytes
length-word_bytes n = length-bytes_high_first 4 n

pub word_again : (n : ℕ) (rest : List ℕ) → n < 2 ^ 32 → word_in (word_bytes n ++ rest) ≡ n
unfolding word_bytes word_in
word_again n rest low = big_number-reads_back 4 n rest low

-- four bytes are those of their number
word_of : (a b c d : ℕ) (rest : List ℕ) → a < 256 → b < 256 → c < 256 → d < 256
    → word_bytes (word_in (a ∷ b ∷ c ∷ d ∷ rest)) ≡ a ∷ b ∷ c ∷ d ∷ []
unfolding word_bytes word_in
word_of a b c d rest ha hb hc hd =
    let n : ℕ = a * 16777216 + (b * 65536 + (c * 256 + (d * 1 + 0))) in
    let first : n / 16777216 % 256 ≡ a = omega arith in
    let second : n / 65536 % 256 ≡ b = omega arith in
    let third : n / 256 % 256 ≡ c = omega arith in
    let fourth : n % 256 ≡ d = omega arith in
    rw (first, second, third, fourth) refl

pub word_back : (bytes : List ℕ) → 4 ≤ length bytes → ((i : ℕ) → get_or bytes i 0 < 256) → word_bytes (word_in bytes) ≡ take 4 bytes
word_back [] long small = absurd (omega arith)
word_back (a ∷ []) long small = absurd (omega arith)
word_back (a ∷ b ∷ []) long small = absurd (omega arith)
word_back (a ∷ b ∷ c ∷ []) long small = absurd (omega arith)
word_back (a ∷ b ∷ c ∷ d ∷ rest) long small = word_of a b c d rest (small 0) (small 1) (small 2) (small 3)
