-- Worked cases of the drivers of a sort.
use Rattle.std.specs.Prelude.{◌≡◌, ◌↔◌, ℕ, Bool, true, false, List, [], ◌∷◌, ◌++◌, None}
use Rattle.al_value.specs.declared.settings.SortKey.{SortKey}
use Rattle.hy_frame.specs.Row.{Fields}
use Rattle.hy_store.specs.Fields.{fields_of}
use Rattle.hy_store.specs.declared.fault.Next.TheVariants as N
use Rattle.hy_driver.specs.Rows.{Row, Fed}
use Rattle.hy_driver.specs.Seen.{Fixed}
use Rattle.hy_driver.specs.Steps.{Gives, TellsTurn}
use Rattle.hy_driver.specs.declared.phase.Phase.TheVariants.{Working, Ended}
use Rattle.hy_job.specs.Cases.{row_of}
use Rattle.hy_sort.specs.Build.{build_out}
use Rattle.hy_sort.specs.Emit.{emit_out, emit_state}

-- by the first column, downwards or upwards
abbrev pub by_first : Bool → List SortKey
by_first descending = record { column = 0; descending = descending } ∷ []

abbrev pub one_and_two : List Row
one_and_two = row_of 1 ∷ row_of 2 ∷ []

-- ---- what is kept

abbrev pub taken : List Fed
taken = (0, row_of 1) ∷ (0, row_of 2) ∷ []

-- rows may be handed on in any order, and once it has ended as they came alone; none is left out
abbrev pub NoneIsLeftOut : Type 0
NoneIsLeftOut = build_out Working taken one_and_two × build_out Working taken (row_of 2 ∷ row_of 1 ∷ [])
    × (build_out Working taken (row_of 1 ∷ []) → ⊥)
    × build_out Ended taken one_and_two × (build_out Ended taken (row_of 2 ∷ row_of 1 ∷ []) → ⊥)

-- ---- what is given

-- a key orders upwards or downwards
abbrev pub KeysHaveDirections : Type 0
KeysHaveDirections = (out : List Row) → (emit_out (by_first true) one_and_two [] out ↔ (out ≡ row_of 2 ∷ row_of 1 ∷ []))
    × (emit_out (by_first false) one_and_two [] out ↔ (out ≡ one_and_two))

-- rows that differ behind the keys may come in either order
abbrev pub TiesAreFree : Type 0
TiesAreFree = emit_out (by_first false) ((row_of 1 ++ row_of 5) ∷ (row_of 1 ++ row_of 4) ∷ []) [] ((row_of 1 ++ row_of 5) ∷ (row_of 1 ++ row_of 4) ∷ [])
    × emit_out (by_first false) ((row_of 1 ++ row_of 5) ∷ (row_of 1 ++ row_of 4) ∷ []) [] ((row_of 1 ++ row_of 4) ∷ (row_of 1 ++ row_of 5) ∷ [])

-- for rows of one value
abbrev pub narrow : Fixed
narrow = record { unit = 256; memory = 3; cost = 0; width = λ input. 0; arity = 1; check = None }

abbrev pub fields_at : ℕ → Fields
fields_at n = fields_of (row_of n)

-- ordering the rows is work; to leave them as they stand where a later one is lesser is none
abbrev pub OrderingIsWork : Type 0
OrderingIsWork = (out : Fields)
    → TellsTurn (emit_state narrow (by_first false) (fields_at 2 ∷ fields_at 1 ∷ []) false 0 true Working) out (emit_state narrow (by_first false) (fields_at 1 ∷ fields_at 2 ∷ []) true 0 true Working) N.Work
    × (TellsTurn (emit_state narrow (by_first false) (fields_at 2 ∷ fields_at 1 ∷ []) false 0 true Working) out (emit_state narrow (by_first false) (fields_at 2 ∷ fields_at 1 ∷ []) true 0 true Working) N.Work → ⊥)

-- of the ordered rows the one at hand is given, and no other
abbrev pub GivesTheNext : Type 0
GivesTheNext = (out : Fields)
    → Gives (emit_state narrow (by_first false) (fields_at 1 ∷ fields_at 2 ∷ []) true 1 true Working) out (emit_state narrow (by_first false) (fields_at 1 ∷ fields_at 2 ∷ []) true 2 true Working) ↔ (out ≡ fields_at 2)

-- it ends where all rows were given, and not before
abbrev pub EndsBehindTheLast : Type 0
EndsBehindTheLast = (out : Fields)
    → TellsTurn (emit_state narrow (by_first false) (fields_at 1 ∷ []) true 1 true Working) out (emit_state narrow (by_first false) (fields_at 1 ∷ []) true 1 true Ended) N.End
    × (TellsTurn (emit_state narrow (by_first false) (fields_at 1 ∷ []) true 0 true Working) out (emit_state narrow (by_first false) (fields_at 1 ∷ []) true 0 true Ended) N.End → ⊥)
