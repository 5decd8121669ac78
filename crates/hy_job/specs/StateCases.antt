-- Worked cases: which states have seen which rows.
use Rattle.std.specs.Prelude.{List, [], ◌∷◌, pos, Some}
use Rattle.al_value.specs.declared.value.Value.TheVariants as V
use Rattle.al_func.specs.declared.rex.Rex.TheVariants as R
use Rattle.al_agg.specs.declared.part.Part.{Part}
use Rattle.al_agg.specs.declared.state.State.{State}
use Rattle.al_agg.specs.declared.state.State.TheVariants as S
use Rattle.hy_job.specs.declared.nested.AggRex.TheVariants as C
use Rattle.hy_job.specs.Columns.{Row}
use Rattle.hy_job.specs.Cases.{int}
use Rattle.hy_job.specs.States.{AreStates}

abbrev pub part_of_state : State → Part
part_of_state s = record { state = s }

abbrev pub three_and_null : List Row
three_and_null = (int 3 ∷ []) ∷ (V.Null ∷ []) ∷ []

-- both rows are counted, and the one int is summed
abbrev pub BothAreSeen : Type 0
BothAreSeen = AreStates (C.CountAll ∷ C.Sum (R.Col 0) ∷ []) three_and_null (part_of_state (S.CountAll (pos 2)) ∷ part_of_state (S.Sum (Some (pos 3))) ∷ [])

-- NULL is not counted where values are
abbrev pub NullIsPassedOver : Type 0
NullIsPassedOver = AreStates (C.Count (R.Col 0) ∷ []) three_and_null (part_of_state (S.Count (pos 2)) ∷ []) → ⊥

-- the states stand in the order of the aggregates
abbrev pub StatesStandInOrder : Type 0
StatesStandInOrder = AreStates (C.CountAll ∷ C.Sum (R.Col 0) ∷ []) three_and_null (part_of_state (S.Sum (Some (pos 3))) ∷ part_of_state (S.CountAll (pos 2)) ∷ []) → ⊥

-- each aggregate has a state
abbrev pub EachHasState : Type 0
EachHasState = AreStates (C.CountAll ∷ C.Sum (R.Col 0) ∷ []) three_and_null (part_of_state (S.CountAll (pos 2)) ∷ []) → ⊥
