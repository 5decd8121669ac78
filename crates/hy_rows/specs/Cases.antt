-- Worked cases of drivers that owe rows in order.
use Rattle.std.specs.Prelude.{◌≡◌, ◌↔◌, Bool, true, false, List, [], ◌∷◌}
use Rattle.hy_frame.specs.Row.{Fields}
use Rattle.hy_store.specs.Fields.{fields_of}
use Rattle.hy_store.specs.declared.fault.Next.TheVariants as N
use Rattle.hy_driver.specs.Cases.{int_row, narrow}
use Rattle.hy_driver.specs.Rows.{Row, Fed}
use Rattle.hy_driver.specs.Seen.{Seen}
use Rattle.hy_driver.specs.Forms.{one_ended}
use Rattle.hy_driver.specs.Steps.{Gives, TellsTurn}
use Rattle.hy_driver.specs.declared.phase.Phase.{Phase}
use Rattle.hy_driver.specs.declared.phase.Phase.TheVariants.{Working, Ended}
use Rattle.hy_rows.specs.State.{row_state}

-- nothing comes of any row
abbrev pub nothing : List Fed → List Row → Type 0
nothing took out = out ≡ []

-- one that owes these rows, of whose input nothing comes
abbrev pub owing : Bool → List Row → Phase → Seen
owing ended owed phase = row_state narrow nothing (one_ended ended) owed phase

-- of two rows that it owes it gives the first, and no other
abbrev pub GivesTheFirst : Type 0
GivesTheFirst = (out : Fields) → Gives (owing false (int_row 1 ∷ int_row 2 ∷ []) Working) out (owing false (int_row 2 ∷ []) Working) ↔ (out ≡ fields_of (int_row 1))

-- it ends where it owes no row, and not while it owes one
abbrev pub EndsOwingNone : Type 0
EndsOwingNone = (out : Fields) → TellsTurn (owing true [] Working) out (owing true [] Ended) N.End
    × (TellsTurn (owing true (int_row 1 ∷ []) Working) out (owing true (int_row 1 ∷ []) Ended) N.End → ⊥)
