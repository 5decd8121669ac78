-- What a field of each kind holds: its value, or what is wrong with it.
use Rattle.std.specs.Prelude.{ℕ, ◌-◌, ◌+◌, ◌*◌, ◌^◌, ◌==◌, ◌||◌, ◌&&◌, nat_lt, nat_le, List, [], ◌∷◌, length, map, Bool, true, false, if◌then◌else◌, Result, Ok, Err, ℤ, pos, negsuc, neg_ℤ, codes, bytes_eq}
use Rattle.std.specs.Char.{to_ascii_lowercase}
use Rattle.std.specs.Str.{all_ascii_digits, is_utf8}
use Rattle.al_value.specs.declared.value.Value.{Value}
use Rattle.al_value.specs.declared.value.Value.TheVariants as V
use Rattle.al_csv.specs.declared.decl.Kind.{Kind}
use Rattle.al_csv.specs.declared.decl.Kind.TheVariants as K
use Rattle.al_csv.specs.declared.refused.DataKind.{DataKind}
use Rattle.al_csv.specs.declared.refused.DataKind.TheVariants.{BadInt, BadBool, BadUtf8, TooLong}

-- the number that decimal digits write: each weighs ten to the count of the digits after it
unfoldable pub number_of : List ℕ → ℕ
number_of [] = 0
number_of (d ∷ ds) = (d - 48) * 10 ^ length ds + number_of ds

-- a number without its sign
abbrev pub without_sign : List ℕ → List ℕ
without_sign [] = []
without_sign (b ∷ rest) = if (b == 45) || (b == 43) then rest else b ∷ rest

abbrev pub has_minus : List ℕ → Bool
has_minus [] = false
has_minus (b ∷ rest) = b == 45

-- the number that a field of a sign and digits writes
abbrev pub int_of : List ℕ → ℤ
int_of field = if has_minus field then neg_ℤ (pos (number_of (without_sign field))) else pos (number_of (without_sign field))

-- one digit or more
abbrev pub is_digits : List ℕ → Bool
is_digits [] = false
is_digits (d ∷ ds) = all_ascii_digits (d ∷ ds)

-- whether a number has 64 bits with its sign
abbrev pub fits_int : ℤ → Bool
fits_int (pos n) = nat_lt n (2 ^ 63)
fits_int (negsuc n) = nat_lt n (2 ^ 63)

abbrev pub int_field : List ℕ → Result Value DataKind
int_field field = if is_digits (without_sign field) && fits_int (int_of field) then Ok (V.Int (int_of field)) else Err BadInt

-- whether a field is a word of small letters, in any case of its own letters
abbrev pub is_word : List ℕ → List ℕ → Bool
is_word word field = bytes_eq (map to_ascii_lowercase field) word

abbrev pub bool_field : List ℕ → Result Value DataKind
bool_field field =
    if is_word (codes "true") field then Ok (V.Bool true)
    else if is_word (codes "false") field then Ok (V.Bool false)
    else Err BadBool

abbrev pub text_field : List ℕ → Result Value DataKind
text_field field =
    if is_utf8 field then (if nat_le (length field) 32000 then Ok (V.Text field) else Err TooLong)
    else Err BadUtf8

-- what the bytes of a field hold under a column of this kind
abbrev pub filled_field : Kind → List ℕ → Result Value DataKind
filled_field K.Int field = int_field field
filled_field K.Text field = text_field field
filled_field K.Bool field = bool_field field

-- an empty field is NULL, whatever its column
abbrev pub field_value : Kind → List ℕ → Result Value DataKind
field_value kind [] = Ok V.Null
field_value kind (b ∷ rest) = filled_field kind (b ∷ rest)
