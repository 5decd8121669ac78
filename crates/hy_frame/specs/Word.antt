-- The numbers of a frame, each in 4 bytes.
use Rattle.std.specs.Prelude.{ℕ, List}
use Rattle.byteorder.specs.Endian.{big_bytes, big_number}

-- a number in 4 big-endian bytes
unfoldable pub word_bytes : ℕ → List ℕ
word_bytes n = big_bytes 4 n

-- the number in the first 4 bytes
unfoldable pub word_in : List ℕ → ℕ
word_in bytes = big_number 4 bytes
