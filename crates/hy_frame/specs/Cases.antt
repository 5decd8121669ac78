-- Worked cases of what bytes are a frame.
use Rattle.std.specs.Prelude.{[], ◌∷◌}
use Rattle.hy_frame.specs.FrameText.{FrameText}
use Rattle.hy_frame.specs.Row.{Fields}

-- a row of one NULL, whose tuple has 5 bytes
abbrev pub null_row : Fields
null_row = (0 ∷ []) ∷ []

-- two such rows in a frame of 24 bytes, of which 2 are in the gap
abbrev pub TwoRows : Type 0
TwoRows =
    FrameText (null_row ∷ null_row ∷ []) 1 24
    (0 ∷ 0 ∷ 0 ∷ 1 ∷ 0 ∷ 0 ∷ 0 ∷ 0 ∷ 1 ∷ 0 ∷ 0 ∷ 0 ∷ 0 ∷ 0 ∷ 0 ∷ 10 ∷ 0 ∷ 0 ∷ 0 ∷ 5 ∷ 0 ∷ 0 ∷ 0 ∷ 2 ∷ [])

-- no gap has another byte
abbrev pub GapIsZeros : Type 0
GapIsZeros =
    ¬ FrameText (null_row ∷ null_row ∷ []) 1 24
    (0 ∷ 0 ∷ 0 ∷ 1 ∷ 0 ∷ 0 ∷ 0 ∷ 0 ∷ 1 ∷ 0 ∷ 0 ∷ 1 ∷ 0 ∷ 0 ∷ 0 ∷ 10 ∷ 0 ∷ 0 ∷ 0 ∷ 5 ∷ 0 ∷ 0 ∷ 0 ∷ 2 ∷ [])

-- the last row's end stands in front
abbrev pub EndsGoDown : Type 0
EndsGoDown =
    ¬ FrameText (null_row ∷ null_row ∷ []) 1 24
    (0 ∷ 0 ∷ 0 ∷ 1 ∷ 0 ∷ 0 ∷ 0 ∷ 0 ∷ 1 ∷ 0 ∷ 0 ∷ 0 ∷ 0 ∷ 0 ∷ 0 ∷ 5 ∷ 0 ∷ 0 ∷ 0 ∷ 10 ∷ 0 ∷ 0 ∷ 0 ∷ 2 ∷ [])

-- the row alone where the unit is 8: 13 bytes need twice the unit
abbrev pub AloneInTwoUnits : Type 0
AloneInTwoUnits =
    FrameText (null_row ∷ []) 1 8 (0 ∷ 0 ∷ 0 ∷ 1 ∷ 0 ∷ 0 ∷ 0 ∷ 0 ∷ 0 ∷ 0 ∷ 0 ∷ 5 ∷ 0 ∷ 0 ∷ 0 ∷ 1 ∷ [])

-- and not three times
abbrev pub NotInThreeUnits : Type 0
NotInThreeUnits =
    ¬ FrameText (null_row ∷ []) 1 8
    (0 ∷ 0 ∷ 0 ∷ 1 ∷ 0 ∷ 0 ∷ 0 ∷ 0 ∷ 0 ∷ 0 ∷ 0 ∷ 0 ∷ 0 ∷ 0 ∷ 0 ∷ 0 ∷ 0 ∷ 0 ∷ 0 ∷ 5 ∷ 0 ∷ 0 ∷ 0 ∷ 1 ∷ [])

-- a frame larger than its unit holds one row alone: two need 22 bytes
abbrev pub NoTwoInTwoUnits : Type 0
NoTwoInTwoUnits =
    ¬ FrameText (null_row ∷ null_row ∷ []) 1 12
    (0 ∷ 0 ∷ 0 ∷ 1 ∷ 0 ∷ 0 ∷ 0 ∷ 0 ∷ 1 ∷ 0 ∷ 0 ∷ 0 ∷ 0 ∷ 0 ∷ 0 ∷ 10 ∷ 0 ∷ 0 ∷ 0 ∷ 5 ∷ 0 ∷ 0 ∷ 0 ∷ 2 ∷ [])
