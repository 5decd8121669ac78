-- Small stretches of rows.
use Rattle.std.specs.Prelude.{◌≡◌, List, [], ◌∷◌, ◌++◌}
use Rattle.hy_driver.specs.Rows.{Row}
use Rattle.hy_job.specs.Cases.{row_of}
use Rattle.hy_subplan.specs.Stretch.{Breaks, GoesOn, IsStretch, stretch_turns}

abbrev pub ones : List Row
ones = (row_of 1 ++ row_of 2) ∷ (row_of 1 ++ row_of 3) ∷ []

-- rows with one key are a stretch, and rows with two aren't
abbrev pub EqualKeysAreStretch : Type 0
EqualKeysAreStretch = IsStretch (0 ∷ []) ones × (IsStretch (0 ∷ []) (row_of 1 ∷ row_of 2 ∷ []) → ⊥)

-- a row with the key of a stretch goes on with it, whatever else it has; one with another key breaks it; none breaks an empty one
abbrev pub OtherKeyBreaks : Type 0
OtherKeyBreaks = GoesOn (0 ∷ []) ones (row_of 1 ++ row_of 4) × (Breaks (0 ∷ []) ones (row_of 1 ++ row_of 4) → ⊥)
    × Breaks (0 ∷ []) ones (row_of 2 ++ row_of 2) × (GoesOn (0 ∷ []) ones (row_of 2 ++ row_of 2) → ⊥)
    × (Breaks (0 ∷ []) [] (row_of 2) → ⊥)

-- a stretch costs as many turns, however many rows it has
abbrev pub StretchHasTwoTurns : Type 0
StretchHasTwoTurns = (stretch_turns ones ≡ 2) × (stretch_turns [] ≡ 0)
