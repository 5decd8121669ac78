-- FNV-1a of 64 bits.
use Rattle.std.specs.Prelude.{ℕ, ◌*◌, ◌%◌, ◌^◌, List, fold, bit_xor}

-- the hash before any byte
abbrev pub fnv_offset : ℕ
fnv_offset = 14695981039346656037

-- the hash after one more byte
abbrev pub fnv_step : ℕ → ℕ → ℕ
fnv_step h byte = bit_xor h byte * 1099511628211 % 2 ^ 64

-- the hash after these bytes
abbrev pub fnv : ℕ → List ℕ → ℕ
fnv h bytes = fold fnv_step h bytes
