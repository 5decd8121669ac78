-- The partial states of aggregates, the lists of values that they stand for, and their fields in a row.
use Rattle.std.specs.Prelude.{◌≡◌, ◌↔◌, ℕ, ◌/◌, ◌%◌, ◌^◌, ℤ, pos, ◌+ℤ◌, true, false, Option, Some, None, List, [], ◌∷◌, ◌++◌, length, take}
use Rattle.std.specs.Int.{w64, w128, cast_signed, cast_unsigned}
use Rattle.al_value.specs.declared.value.Value.{Value}
use Rattle.al_value.specs.declared.value.Value.TheVariants as V
use Rattle.al_value.specs.Value.{IsValue}
use Rattle.al_agg.specs.declared.agg.Agg.{Agg}
use Rattle.al_agg.specs.declared.agg.Agg.TheVariants as A
use Rattle.al_agg.specs.declared.part.Part.{Part}
use Rattle.al_agg.specs.declared.state.State.{State}
use Rattle.al_agg.specs.declared.state.State.TheVariants as S
use Rattle.al_agg.specs.Agg.{wrapped, present, ints_of, total, least, greatest}

-- the number of state fields
abbrev pub width : Agg → ℕ
width A.CountAll = 2
width A.Count = 2
width A.Sum = 3
width A.Min = 1
width A.Max = 1

-- the number of 64 bits that are the upper half of the two's complement of a number of 128 bits
unfoldable pub high_half : ℤ → ℤ
high_half z = cast_signed w64 (cast_unsigned w128 z / 2 ^ 64)

-- the number of 64 bits that are the lower half
unfoldable pub low_half : ℤ → ℤ
low_half z = cast_signed w64 (cast_unsigned w128 z % 2 ^ 64)

-- both halves as INTs
abbrev pub halves : ℤ → List Value
halves z = V.Int (high_half z) ∷ V.Int (low_half z) ∷ []

-- the state fields of the sum of no ints, or of ints with this sum
abbrev pub sum_fields : Option ℤ → List Value
sum_fields None = V.Bool false ∷ halves (pos 0)
sum_fields (Some z) = V.Bool true ∷ halves z

-- the sum of ints modulo 2^128, if there are any
abbrev pub some_sum : List ℤ → Option ℤ
some_sum [] = None
some_sum (n ∷ ns) = Some (wrapped (total (n ∷ ns)))

-- the sum of all the ints of two sums
abbrev pub joined_sums : Option ℤ → Option ℤ → Option ℤ
joined_sums None b = b
joined_sums (Some a) None = Some a
joined_sums (Some a) (Some b) = Some (wrapped (a +ℤ b))

-- the state fields of an aggregate for a list of values
unfoldable pub state_fields : Agg → List Value → List Value
state_fields A.CountAll vs = halves (wrapped (pos (length vs)))
state_fields A.Count vs = halves (wrapped (pos (length (present vs))))
state_fields A.Sum vs = sum_fields (some_sum (ints_of vs))
state_fields A.Min vs = least vs ∷ []
state_fields A.Max vs = greatest vs ∷ []

-- the high and the low half of a number
abbrev pub AreHalves : List Value → Type 0
AreHalves (V.Int high ∷ V.Int low ∷ []) = IsValue (V.Int high) × IsValue (V.Int low)
AreHalves _ = ⊥

-- whether ints were seen, and the halves of their sum, which is 0 where none were
abbrev pub IsSumState : List Value → Type 0
IsSumState (V.Bool true ∷ fields) = AreHalves fields
IsSumState (V.Bool false ∷ fields) = fields ≡ V.Int (pos 0) ∷ V.Int (pos 0) ∷ []
IsSumState _ = ⊥

-- one value
abbrev pub IsOneValue : List Value → Type 0
IsOneValue (v ∷ []) = IsValue v
IsOneValue _ = ⊥

-- the fields are those of a state of the aggregate
unfoldable pub IsState : Agg → List Value → Type 0
IsState A.CountAll fields = AreHalves fields
IsState A.Count fields = AreHalves fields
IsState A.Sum fields = IsSumState fields
IsState A.Min fields = IsOneValue fields
IsState A.Max fields = IsOneValue fields

-- which aggregate a state is of
abbrev pub state_agg : State → Agg
state_agg (S.CountAll n) = A.CountAll
state_agg (S.Count n) = A.Count
state_agg (S.Sum sum) = A.Sum
state_agg (S.Min v) = A.Min
state_agg (S.Max v) = A.Max

-- the number or the value of the state is that of the list
abbrev pub StateStands : State → List Value → Type 0
StateStands (S.CountAll n) vs = n ≡ wrapped (pos (length vs))
StateStands (S.Count n) vs = n ≡ wrapped (pos (length (present vs)))
StateStands (S.Sum sum) vs = sum ≡ some_sum (ints_of vs)
StateStands (S.Min v) vs = v ≡ least vs
StateStands (S.Max v) vs = v ≡ greatest vs

-- the fields of a state
abbrev pub fields_of : State → List Value
fields_of (S.CountAll n) = halves n
fields_of (S.Count n) = halves n
fields_of (S.Sum sum) = sum_fields sum
fields_of (S.Min v) = v ∷ []
fields_of (S.Max v) = v ∷ []

-- which aggregate a partial state is of
unfoldable pub agg_of : Part → Agg
agg_of p = state_agg p.state

-- the partial state stands for the list of values
unfoldable pub Stands : Part → List Value → Type 0
Stands p vs = StateStands p.state vs

-- the partial state stands for the lists that have these state fields, and for no others
abbrev pub StandsByFields : Agg → List Value → Part → Type 0
StandsByFields a fields p = (vs : List Value) → Stands p vs ↔ (state_fields a vs ≡ fields)

-- the state fields of a partial state
unfoldable pub part_fields : Part → List Value
part_fields p = fields_of p.state

-- the list has gained some of the fields at its end
abbrev pub GainsSome : List Value → List Value → List Value → Type 0
GainsSome old new fields = (k : ℕ) × (new ≡ old ++ take k fields)
