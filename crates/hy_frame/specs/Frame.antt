-- A frame as its user sees it.
use Rattle.std.specs.Prelude.{◌≢◌, ◌+◌, ◌-◌, ◌<◌, ◌⊎◌, ℕ, List, []}
use Rattle.hy_frame.specs.Row.{Fields}
use Rattle.hy_frame.specs.FrameText.{taken}

pub record FrameOf : Type 0 where
  pub arity : ℕ
  pub unit : ℕ
  pub size : ℕ
  pub rows : List Fields

-- how many bytes are free for rows
abbrev pub free_in : FrameOf → ℕ
free_in f = f.size - 4 - taken f.rows

-- a row of this size and the number of its end need more than is free, or the frame is a single row's
abbrev pub IsFull : FrameOf → ℕ → Type 0
IsFull f row = (free_in f < row + 4) ⊎ ((f.unit < f.size) × (f.rows ≢ []))

-- the frame with this size and these rows
abbrev pub sized : FrameOf → ℕ → List Fields → FrameOf
sized f size rows = record { arity = f.arity; unit = f.unit; size = size; rows = rows }

-- the frame with these rows
abbrev pub with_rows : FrameOf → List Fields → FrameOf
with_rows f rows = sized f f.size rows
