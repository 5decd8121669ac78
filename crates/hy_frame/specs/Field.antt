-- The bytes of a field, which holds one value of a row.
use Rattle.std.specs.Prelude.{◌≡◌, ◌<◌, ◌≤◌, ◌^◌, ◌⊎◌, ℕ, List, [], ◌∷◌, length, IsUtf8}
use Rattle.byteorder.specs.Endian.{big_bytes}

-- the bytes of an int behind the first: a number of 64 bits in 8 bytes
abbrev pub IsInt : List ℕ → Type 0
IsInt bytes = (n : ℕ) × (n < 2 ^ 64) × (bytes ≡ big_bytes 8 n)

-- UTF-8 of at most 32,000 bytes
abbrev pub IsText : List ℕ → Type 0
IsText bytes = IsUtf8 bytes × (length bytes ≤ 32000)

-- 0, 1 or 2 alone for NULL, FALSE and TRUE; 3 and an int; 4 and a text
abbrev pub IsField : List ℕ → Type 0
IsField [] = ⊥
IsField (tag ∷ rest) = ((tag < 3) × (rest ≡ [])) ⊎ ((tag ≡ 3) × IsInt rest) ⊎ ((tag ≡ 4) × IsText rest)
