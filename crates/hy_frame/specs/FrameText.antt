-- Which bytes are the frame of some rows.
use Rattle.std.specs.Prelude.{◌≡◌, ◌+◌, ◌*◌, ◌-◌, ◌^◌, ◌<◌, ◌≤◌, ◌⊎◌, ℕ, List, [], ◌∷◌, ◌++◌, length, map, replicate}
use Rattle.std.specs.List.{concat}
use Rattle.hy_frame.specs.Row.{Fields, IsRow, row_size, tuple_bytes}
use Rattle.hy_frame.specs.Word.{word_bytes}

abbrev pub AllRows : ℕ → List Fields → Type 0
AllRows arity [] = Unit {0}
AllRows arity (row ∷ rows) = IsRow arity row × AllRows arity rows

-- the tuples without gaps
abbrev pub tuples_of : List Fields → List ℕ
tuples_of rows = concat (map tuple_bytes rows)

-- where each tuple ends, the last in front; the first tuple begins at `start`
abbrev pub slots_of : ℕ → List Fields → List ℕ
slots_of start [] = []
slots_of start (row ∷ rows) = slots_of (start + row_size row) rows ++ word_bytes (start + row_size row)

-- what rows take of a frame: each its size and 4
abbrev pub taken : List Fields → ℕ
taken [] = 0
taken (row ∷ rows) = row_size row + 4 + taken rows

-- the tuples, zeros, the ends of the tuples, and how many these are
abbrev pub frame_bytes : ℕ → List Fields → List ℕ
frame_bytes size rows =
    tuples_of rows ++ (replicate (size - 4 - taken rows) 0 ++ (slots_of 0 rows ++ word_bytes (length rows)))

-- the least multiple of the unit in which a row of this size stands
pub record IsLeast (unit row size : ℕ) : Type 0 where
  pub times : ℕ
  pub multiple : size ≡ times * unit
  pub fits : row + 8 ≤ size
  pub least : size < row + 8 + unit

-- a single row, in a frame of the least size that holds it
abbrev pub IsAlone : ℕ → List Fields → ℕ → Type 0
IsAlone unit rows size = (row : Fields) × (rows ≡ row ∷ []) × IsLeast unit (row_size row) size

-- a frame is as large as its unit, or larger for a single row
abbrev pub IsFrameSize : ℕ → List Fields → ℕ → Type 0
IsFrameSize unit rows size =
    ((size ≡ unit) × (taken rows + 4 ≤ size)) ⊎ ((unit < size) × IsAlone unit rows size)

-- the bytes are the frame of these rows; its numbers have 4 bytes, so it is no longer than they reach
pub record FrameText (rows : List Fields) (arity unit : ℕ) (bytes : List ℕ) : Type 0 where
  pub rows_are : AllRows arity rows
  pub sized : IsFrameSize unit rows (length bytes)
  pub reached : length bytes < 2 ^ 32
  pub is : bytes ≡ frame_bytes (length bytes) rows

-- the bytes are the frame of some rows
abbrev pub IsFrameText : ℕ → ℕ → List ℕ → Type 0
IsFrameText arity unit bytes = (rows : List Fields) × FrameText rows arity unit bytes
