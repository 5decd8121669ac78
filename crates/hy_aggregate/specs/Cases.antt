-- Worked cases of aggregates without keys.
use Rattle.std.specs.Prelude.{◌≡◌, ◌↔◌, true, false, List, [], ◌∷◌, ◌++◌, None}
use Rattle.al_value.specs.declared.value.Value.{Value}
use Rattle.al_value.specs.declared.value.Value.TheVariants as V
use Rattle.al_func.specs.declared.rex.Rex.TheVariants as R
use Rattle.al_agg.specs.declared.agg.Agg.TheVariants as A
use Rattle.al_agg.specs.declared.part.Part.{Part}
use Rattle.al_agg.specs.declared.state.State.TheVariants as S
use Rattle.hy_frame.specs.Row.{Fields}
use Rattle.hy_store.specs.declared.fault.Next.TheVariants as N
use Rattle.hy_driver.specs.Rows.{Row, Fed}
use Rattle.hy_driver.specs.Seen.{Fixed}
use Rattle.hy_driver.specs.Steps.{Steps, TellsTurn}
use Rattle.hy_driver.specs.declared.phase.Phase.TheVariants.{Working, Ended}
use Rattle.hy_job.specs.declared.nested.AggRex.TheVariants as C
use Rattle.hy_job.specs.declared.job.Kind.TheVariants as K
use Rattle.hy_job.specs.Cases.{int, row_of}
use Rattle.hy_job.specs.Drivers.{all_left, driver_out}
use Rattle.hy_aggregate.specs.declared.work.AggWork.{AggWork}
use Rattle.hy_aggregate.specs.declared.work.AggWork.TheVariants as W
use Rattle.hy_aggregate.specs.Joined.{HaveJoined}
use Rattle.hy_aggregate.specs.Work.{agg_out}
use Rattle.hy_aggregate.specs.Aggregate.{agg_state}

-- the state of the greatest value
abbrev pub greatest_of : Value → Part
greatest_of v = record { state = S.Max v }

-- the greatest value of the first column, as fields of a state
abbrev pub greatest : AggWork
greatest = W.Part (C.Max (R.Col 0) ∷ [])

-- the greatest value over joined states
abbrev pub greatest_joined : AggWork
greatest_joined = W.Final (A.Max ∷ [])

abbrev pub two : List Fed
two = (0, row_of 2) ∷ (0, row_of 1) ∷ []

-- ---- the row

-- one row comes of two rows, and one of none; once it was given none comes
abbrev pub OneRowComes : Type 0
OneRowComes = (out : List Row) → (agg_out greatest true two out ↔ (out ≡ row_of 2 ∷ []))
    × (agg_out greatest true [] out ↔ (out ≡ (V.Null ∷ []) ∷ []))
    × (agg_out greatest false two out ↔ (out ≡ []))

-- the states of two rows are joined to the greater value
abbrev pub StatesJoin : Type 0
StatesJoin = agg_out greatest_joined true two (row_of 2 ∷ []) × (agg_out greatest_joined true two (row_of 1 ∷ []) → ⊥)
    × (agg_out greatest_joined true two [] → ⊥)

-- of two partitions the first gives the row of joined states, and the second none
abbrev pub FirstAlone : Type 0
FirstAlone = (out : List Row) → driver_out (K.AggFinal (A.Max ∷ [])) 1 (all_left (K.AggFinal (A.Max ∷ [])) 2 0 [] []) two (row_of 2 ∷ [])
    × (driver_out (K.AggFinal (A.Max ∷ [])) 1 (all_left (K.AggFinal (A.Max ∷ [])) 2 1 [] []) two out ↔ (out ≡ []))

-- ---- states

abbrev pub two_rows : List Row
two_rows = (row_of 2 ++ row_of 3) ∷ (row_of 1 ++ row_of 4) ∷ []

-- of rows with the fields of two states each is joined to its own; neither they in another order, nor one alone, nor what the first
-- row has
abbrev pub EachIsJoined : Type 0
EachIsJoined = HaveJoined (A.Max ∷ A.Max ∷ []) two_rows (greatest_of (int 2) ∷ greatest_of (int 4) ∷ [])
    × (HaveJoined (A.Max ∷ A.Max ∷ []) two_rows (greatest_of (int 4) ∷ greatest_of (int 2) ∷ []) → ⊥)
    × (HaveJoined (A.Max ∷ A.Max ∷ []) two_rows (greatest_of (int 2) ∷ []) → ⊥)
    × (HaveJoined (A.Max ∷ A.Max ∷ []) two_rows (greatest_of (int 2) ∷ greatest_of (int 3) ∷ []) → ⊥)

-- ---- turns

-- for rows of one value
abbrev pub narrow : Fixed
narrow = record { unit = 256; memory = 3; cost = 1; width = λ input. 1; arity = 1; check = None }

-- it doesn't end before its row was given, also over no rows
abbrev pub GivesBeforeItEnds : Type 0
GivesBeforeItEnds = (out : Fields)
    → TellsTurn (agg_state narrow greatest [] false true Working) out (agg_state narrow greatest [] false true Ended) N.End
    × (TellsTurn (agg_state narrow greatest (greatest_of V.Null ∷ []) true true Working) out (agg_state narrow greatest (greatest_of V.Null ∷ []) true true Ended) N.End → ⊥)

-- a row that was taken has been seen by the state
abbrev pub RowIsSeen : Type 0
RowIsSeen = Steps (agg_state narrow greatest (greatest_of (int 1) ∷ []) true false Working) ((0, row_of 2) ∷ []) [] (agg_state narrow greatest (greatest_of (int 2) ∷ []) true false Working)
    × (Steps (agg_state narrow greatest (greatest_of (int 1) ∷ []) true false Working) ((0, row_of 2) ∷ []) [] (agg_state narrow greatest (greatest_of (int 1) ∷ []) true false Working) → ⊥)
