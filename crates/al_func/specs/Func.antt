-- What each function of the language gives.
use Rattle.std.specs.Prelude.{ℕ, zero, ◌-◌, ◌^◌, ℤ, pos, negsuc, ◌+ℤ◌, ◌-ℤ◌, ◌*ℤ◌, neg_ℤ, int_div, int_rem, int_le, nat_le, Bool, true, false, not, ◌&&◌, if◌then◌else◌, List, [], ◌∷◌, ◌++◌, map, length, take, drop, Option, Some, None, encode_utf8_all}
use Rattle.std.specs.Str.{chars}
use Rattle.std.specs.Char.{to_ascii_lowercase}
use Rattle.std.specs.declared.cmp.Ordering.{Ordering}
use Rattle.std.specs.declared.cmp.Ordering.TheVariants.{Less, Equal, Greater}
use Rattle.al_value.specs.declared.value.Value.{Value}
use Rattle.al_value.specs.declared.value.Value.TheVariants as V
use Rattle.al_value.specs.Value.{eq3, value_cmp}
use Rattle.al_func.specs.declared.func.Func.{Func}
use Rattle.al_func.specs.declared.func.Func.TheVariants as F

-- the number of arguments of a function
abbrev pub arity : Func → ℕ
arity F.Eq = 2
arity F.Lt = 2
arity F.Le = 2
arity F.And = 2
arity F.Or = 2
arity F.Not = 1
arity F.Add = 2
arity F.Sub = 2
arity F.Mul = 2
arity F.Div = 2
arity F.Mod = 2
arity F.Neg = 1
arity F.Concat = 2
arity F.Length = 1
arity F.Substr = 3
arity F.LowerAscii = 1
arity F.If = 3
arity F.IsNull = 1
arity F.Coalesce = 2

-- ---- comparisons

-- an answer as a value, with NULL for none
abbrev pub truth : Option Bool → Value
truth (Some b) = V.Bool b
truth None = V.Null

abbrev pub equal : Value → Value → Value
equal a b = truth (eq3 a b)

-- the order of two values, where both have one kind and neither is NULL
abbrev pub order3 : Value → Value → Option Ordering
order3 (V.Bool a) (V.Bool b) = Some (value_cmp (V.Bool a) (V.Bool b))
order3 (V.Int a) (V.Int b) = Some (value_cmp (V.Int a) (V.Int b))
order3 (V.Text a) (V.Text b) = Some (value_cmp (V.Text a) (V.Text b))
order3 _ _ = None

abbrev pub is_less : Ordering → Bool
is_less Less = true
is_less Equal = false
is_less Greater = false

abbrev pub is_at_most : Ordering → Bool
is_at_most Less = true
is_at_most Equal = true
is_at_most Greater = false

-- whether an order passes a test
abbrev pub tested : (Ordering → Bool) → Option Ordering → Option Bool
tested test (Some order) = Some (test order)
tested test None = None

-- whether the order of two values passes a test, where both have one kind and neither is NULL
abbrev pub cmp3 : (Ordering → Bool) → Value → Value → Option Bool
cmp3 test a b = tested test (order3 a b)

abbrev pub less : Value → Value → Value
less a b = truth (cmp3 is_less a b)

abbrev pub at_most : Value → Value → Value
at_most a b = truth (cmp3 is_at_most a b)

-- ---- logic with three answers

-- Kleene's: one FALSE makes it FALSE, two TRUE make it TRUE, and all else is unknown
abbrev pub and3 : Value → Value → Value
and3 (V.Bool false) _ = V.Bool false
and3 _ (V.Bool false) = V.Bool false
and3 (V.Bool true) (V.Bool true) = V.Bool true
and3 _ _ = V.Null

-- Kleene's: one TRUE makes it TRUE, two FALSE make it FALSE, and all else is unknown
abbrev pub or3 : Value → Value → Value
or3 (V.Bool true) _ = V.Bool true
or3 _ (V.Bool true) = V.Bool true
or3 (V.Bool false) (V.Bool false) = V.Bool false
or3 _ _ = V.Null

abbrev pub not3 : Value → Value
not3 (V.Bool b) = V.Bool (not b)
not3 _ = V.Null

-- ---- ints

abbrev pub is_i64 : ℤ → Bool
is_i64 z = int_le (negsuc (2 ^ 63 - 1)) z && int_le z (pos (2 ^ 63 - 1))

-- a number as a value, with NULL for one past 64 bits
abbrev pub fitted : ℤ → Value
fitted z = if is_i64 z then V.Int z else V.Null

-- rounded towards zero, and NULL for a divisor of 0
abbrev pub quotient : ℤ → ℤ → Value
quotient a (pos zero) = V.Null
quotient a b = fitted (int_div a b)

-- with the dividend's sign, and NULL where there is no quotient
abbrev pub remainder : ℤ → ℤ → Value
remainder a (pos zero) = V.Null
remainder a b = if is_i64 (int_div a b) then V.Int (int_rem a b) else V.Null

abbrev pub add : Value → Value → Value
add (V.Int a) (V.Int b) = fitted (a +ℤ b)
add _ _ = V.Null

abbrev pub sub : Value → Value → Value
sub (V.Int a) (V.Int b) = fitted (a -ℤ b)
sub _ _ = V.Null

abbrev pub mul : Value → Value → Value
mul (V.Int a) (V.Int b) = fitted (a *ℤ b)
mul _ _ = V.Null

abbrev pub div : Value → Value → Value
div (V.Int a) (V.Int b) = quotient a b
div _ _ = V.Null

abbrev pub modulo : Value → Value → Value
modulo (V.Int a) (V.Int b) = remainder a b
modulo _ _ = V.Null

abbrev pub neg : Value → Value
neg (V.Int a) = fitted (neg_ℤ a)
neg _ = V.Null

-- ---- texts

-- these bytes as a value, with NULL for more than 32,000
abbrev pub fitted_text : List ℕ → Value
fitted_text bytes = if nat_le (length bytes) 32000 then V.Text bytes else V.Null

abbrev pub concat : Value → Value → Value
concat (V.Text a) (V.Text b) = fitted_text (a ++ b)
concat _ _ = V.Null

-- the number of characters
abbrev pub length_of : Value → Value
length_of (V.Text t) = V.Int (pos (length (chars t)))
length_of _ = V.Null

-- `count` characters of a text from the place `start` on, or fewer where the text ends
abbrev pub piece : List ℕ → ℕ → ℕ → List ℕ
piece t start count = encode_utf8_all (take count (drop start (chars t)))

abbrev pub substr : Value → Value → Value → Value
substr (V.Text t) (V.Int (pos start)) (V.Int (pos count)) = V.Text (piece t start count)
substr _ _ _ = V.Null

abbrev pub lower_ascii : Value → Value
lower_ascii (V.Text t) = V.Text (map to_ascii_lowercase t)
lower_ascii _ = V.Null

-- ---- choices

abbrev pub is_true : Value → Bool
is_true (V.Bool b) = b
is_true _ = false

abbrev pub is_null : Value → Bool
is_null V.Null = true
is_null _ = false

-- the first value where the condition is TRUE, else the second
abbrev pub chosen : Value → Value → Value → Value
chosen condition a b = if is_true condition then a else b

-- the first unless it is NULL, else the second
abbrev pub coalesce : Value → Value → Value
coalesce a b = if is_null a then b else a

-- a call of a function, with NULL for another number of arguments than it takes
unfoldable pub apply : Func → List Value → Value
apply F.Eq (a ∷ b ∷ []) = equal a b
apply F.Lt (a ∷ b ∷ []) = less a b
apply F.Le (a ∷ b ∷ []) = at_most a b
apply F.And (a ∷ b ∷ []) = and3 a b
apply F.Or (a ∷ b ∷ []) = or3 a b
apply F.Not (a ∷ []) = not3 a
apply F.Add (a ∷ b ∷ []) = add a b
apply F.Sub (a ∷ b ∷ []) = sub a b
apply F.Mul (a ∷ b ∷ []) = mul a b
apply F.Div (a ∷ b ∷ []) = div a b
apply F.Mod (a ∷ b ∷ []) = modulo a b
apply F.Neg (a ∷ []) = neg a
apply F.Concat (a ∷ b ∷ []) = concat a b
apply F.Length (a ∷ []) = length_of a
apply F.Substr (a ∷ b ∷ c ∷ []) = substr a b c
apply F.LowerAscii (a ∷ []) = lower_ascii a
apply F.If (a ∷ b ∷ c ∷ []) = chosen a b c
apply F.IsNull (a ∷ []) = V.Bool (is_null a)
apply F.Coalesce (a ∷ b ∷ []) = coalesce a b
apply _ _ = V.Null
