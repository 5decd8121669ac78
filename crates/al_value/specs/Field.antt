-- The bytes of a field, in which frames hold a value. Their order is the order of the values.
use Rattle.std.specs.Prelude.{ℕ, suc, ◌+◌, ◌-◌, ◌^◌, ◌≢◌, ℤ, pos, negsuc, false, true, List, [], ◌∷◌}
use Rattle.byteorder.specs.Endian.{big_bytes}
use Rattle.al_value.specs.Value.{IsValue}
use Rattle.al_value.specs.declared.value.Value.{Value}
use Rattle.al_value.specs.declared.value.Value.TheVariants as V

-- the int and 2^63, which is no negative number where the int is one of 64 bits
abbrev pub raised : ℤ → ℕ
raised (pos n) = 2 ^ 63 + n
raised (negsuc n) = 2 ^ 63 - suc n

-- one byte for the kind, and then the number of an int in 8 bytes, or the bytes of a text
abbrev pub field_bytes : Value → List ℕ
field_bytes V.Null = 0 ∷ []
field_bytes (V.Bool false) = 1 ∷ []
field_bytes (V.Bool true) = 2 ∷ []
field_bytes (V.Int z) = 3 ∷ big_bytes 8 (raised z)
field_bytes (V.Text bytes) = 4 ∷ bytes

-- no value has a field of these bytes
abbrev pub IsNoField : List ℕ → Type 0
IsNoField bytes = (v : Value) → IsValue v → field_bytes v ≢ bytes
