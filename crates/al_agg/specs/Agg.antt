-- What an aggregate gives over a list of values.
use Rattle.std.specs.Prelude.{ℤ, pos, negsuc, ◌+ℤ◌, ◌-◌, ◌^◌, Bool, true, false, not, ◌&&◌, List, [], ◌∷◌, filter, length, int_le, if◌then◌else◌}
use Rattle.std.specs.Int.{int_wrap, w128}
use Rattle.std.specs.declared.cmp.Ordering.{Ordering}
use Rattle.std.specs.declared.cmp.Ordering.TheVariants.{Less, Equal, Greater}
use Rattle.al_value.specs.declared.value.Value.{Value}
use Rattle.al_value.specs.declared.value.Value.TheVariants as V
use Rattle.al_value.specs.Value.{value_cmp}
use Rattle.al_agg.specs.declared.agg.Agg.{Agg}
use Rattle.al_agg.specs.declared.agg.Agg.TheVariants as A

abbrev pub is_i64 : ℤ → Bool
is_i64 z = int_le (negsuc (2 ^ 63 - 1)) z && int_le z (pos (2 ^ 63 - 1))

-- a number as a value, with NULL for one past 64 bits
abbrev pub fitted : ℤ → Value
fitted z = if is_i64 z then V.Int z else V.Null

-- a signed number modulo 2^128
abbrev pub wrapped : ℤ → ℤ
wrapped z = int_wrap w128 z

-- a signed number modulo 2^128 as a value
abbrev pub counted : ℤ → Value
counted z = fitted (wrapped z)

abbrev pub is_null : Value → Bool
is_null V.Null = true
is_null _ = false

-- the values that are not NULL
abbrev pub present : List Value → List Value
present = filter (λ v. not (is_null v))

-- the ints among the values
abbrev pub ints_of : List Value → List ℤ
ints_of [] = []
ints_of (V.Int n ∷ vs) = n ∷ ints_of vs
ints_of (_ ∷ vs) = ints_of vs

abbrev pub total : List ℤ → ℤ
total [] = pos 0
total (n ∷ ns) = n +ℤ total ns

-- the sum of ints, with NULL for none
abbrev pub sum_of : List ℤ → Value
sum_of [] = V.Null
sum_of (n ∷ ns) = counted (total (n ∷ ns))

abbrev pub is_less : Ordering → Bool
is_less Less = true
is_less Equal = false
is_less Greater = false

-- the lesser of two values, where NULL is none
abbrev pub lesser : Value → Value → Value
lesser V.Null w = w
lesser v V.Null = v
lesser v w = if is_less (value_cmp w v) then w else v

-- the greater of two values, where NULL is none
abbrev pub greater : Value → Value → Value
greater V.Null w = w
greater v V.Null = v
greater v w = if is_less (value_cmp v w) then w else v

abbrev pub least : List Value → Value
least [] = V.Null
least (v ∷ vs) = lesser v (least vs)

abbrev pub greatest : List Value → Value
greatest [] = V.Null
greatest (v ∷ vs) = greater v (greatest vs)

-- an aggregate over a list of values, a value for each row
unfoldable pub agg : Agg → List Value → Value
agg A.CountAll vs = counted (pos (length vs))
agg A.Count vs = counted (pos (length (present vs)))
agg A.Sum vs = sum_of (ints_of vs)
agg A.Min vs = least vs
agg A.Max vs = greatest vs
