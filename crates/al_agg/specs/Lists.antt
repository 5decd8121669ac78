-- Which fields are those of a list of values.
use Rattle.std.specs.Prelude.{All, ◌≡◌, ◌↔◌, pos, negsuc, true, false, List, [], ◌∷◌}
use Rattle.al_value.specs.declared.value.Value.{Value}
use Rattle.al_value.specs.declared.value.Value.TheVariants as V
use Rattle.al_value.specs.Value.{IsValue}
use Rattle.al_agg.specs.declared.agg.Agg.{Agg}
use Rattle.al_agg.specs.declared.agg.Agg.TheVariants as A
use Rattle.al_agg.specs.Part.{state_fields, IsState}

-- the fields are those of some list of values
abbrev pub AreOfList : Agg → List Value → Type 0
AreOfList a fields = (vs : List Value) × All IsValue vs × (state_fields a vs ≡ fields)

-- fields of a state are those of some list of values, and other fields are of none
abbrev pub StatesAreOfLists : Type 0
StatesAreOfLists = (a : Agg) (fields : List Value) → IsState a fields ↔ AreOfList a fields

-- the sum of two ints with a NULL between them
abbrev pub SumOfTwo : Type 0
SumOfTwo = state_fields A.Sum (V.Int (pos 3) ∷ V.Null ∷ V.Int (pos 4) ∷ []) ≡ V.Bool true ∷ V.Int (pos 0) ∷ V.Int (pos 7) ∷ []

-- a sum below zero has the high half -1
abbrev pub SumBelowZero : Type 0
SumBelowZero = state_fields A.Sum (V.Int (negsuc 2) ∷ V.Int (negsuc 3) ∷ []) ≡ V.Bool true ∷ V.Int (negsuc 0) ∷ V.Int (negsuc 6) ∷ []

-- no ints were seen, and yet there is a sum
abbrev pub SumOfNoneIsZero : Type 0
SumOfNoneIsZero = AreOfList A.Sum (V.Bool false ∷ V.Int (pos 0) ∷ V.Int (pos 5) ∷ []) → ⊥

-- a count with one half
abbrev pub CountHasHalves : Type 0
CountHasHalves = AreOfList A.Count (V.Int (pos 5) ∷ []) → ⊥
