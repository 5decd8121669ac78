-- The values of the program, their order, and their comparison with three answers.
use Rattle.std.specs.Prelude.{Bool, Option, Some, None, nat_eq, FitsSigned}
use Rattle.std.specs.Int.{w64}
use Rattle.std.specs.declared.cmp.Ordering.{Ordering}
use Rattle.std.specs.declared.cmp.Ordering.TheVariants.{Less, Equal, Greater}
use Rattle.std.specs.Ordering.{nat_cmp, int_cmp, int_eq, bool_cmp}
use Rattle.std.specs.Cmp.Lexicographic.{slice_cmp, pointwise}
use mathlib.Core.Bool.{beq}
use Rattle.al_value.specs.Text.{IsText}
use Rattle.al_value.specs.declared.value.Value.{Value}
use Rattle.al_value.specs.declared.value.Value.TheVariants as V

-- a value of the program: an int is one of 64 bits, and a text is UTF-8 of at most 32,000 bytes
abbrev pub IsValue : Value → Type 0
IsValue V.Null = Unit {0}
IsValue (V.Bool b) = Unit {0}
IsValue (V.Int z) = FitsSigned w64 z
IsValue (V.Text bytes) = IsText bytes

-- NULL, false, true, the ints by number, the texts by bytes
abbrev pub value_cmp : Value → Value → Ordering
value_cmp V.Null V.Null = Equal
value_cmp V.Null _ = Less
value_cmp (V.Bool a) V.Null = Greater
value_cmp (V.Bool a) (V.Bool b) = bool_cmp a b
value_cmp (V.Bool a) _ = Less
value_cmp (V.Int a) (V.Int b) = int_cmp a b
value_cmp (V.Int a) (V.Text b) = Less
value_cmp (V.Int a) _ = Greater
value_cmp (V.Text a) (V.Text b) = slice_cmp nat_cmp a b
value_cmp (V.Text a) _ = Greater

-- TRUE or FALSE for two values of one kind that are not NULL
abbrev pub eq3 : Value → Value → Option Bool
eq3 (V.Bool a) (V.Bool b) = Some (beq a b)
eq3 (V.Int a) (V.Int b) = Some (int_eq a b)
eq3 (V.Text a) (V.Text b) = Some (pointwise nat_eq a b)
eq3 _ _ = None
