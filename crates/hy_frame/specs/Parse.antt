-- What is tested of bytes that may be a frame, part by part.
use Rattle.std.specs.Prelude.{◌≡◌, ◌-◌, ◌<◌, ◌≤◌, ◌⊎◌, ℕ, List, ◌++◌, length, take, replicate}
use Rattle.std.specs.List.{concat}
use Rattle.hy_frame.specs.Field.{IsField}
use Rattle.hy_frame.specs.Row.{Fields, AllFields, IsRow, field_ends, tuple_bytes}
use Rattle.hy_frame.specs.FrameText.{AllRows, IsLeast, tuples_of, slots_of}
use Rattle.hy_frame.specs.Word.{word_in}

-- the bytes from `start` up to `end`, of which the first is the one at `start`, begin with a field
abbrev pub BeginsField : ℕ → ℕ → List ℕ → Type 0
BeginsField start end bytes = (start ≤ end) × (end - start ≤ length bytes) × IsField (take (end - start) bytes)

-- these are the ends and the fields of a row of n fields, which begin at `start`
abbrev pub AreFields : ℕ → ℕ → List ℕ → List ℕ → Type 0
AreFields n start ends fields =
    (row : Fields) × (length row ≡ n) × AllFields row × (ends ≡ field_ends start row) × (fields ≡ concat row)

-- the tuple of some row
abbrev pub IsTuple : ℕ → List ℕ → Type 0
IsTuple arity bytes = (row : Fields) × IsRow arity row × (bytes ≡ tuple_bytes row)

abbrev pub BeginsTuple : ℕ → ℕ → ℕ → List ℕ → Type 0
BeginsTuple arity start end bytes = (start ≤ end) × (end - start ≤ length bytes) × IsTuple arity (take (end - start) bytes)

-- these are the ends of n rows' tuples, which begin at `start`, and the tuples with zeros behind them
abbrev pub AreTuples : ℕ → ℕ → ℕ → List ℕ → List ℕ → Type 0
AreTuples arity n start slots bytes =
    (rows : List Fields) × (length rows ≡ n) × AllRows arity rows × (slots ≡ slots_of start rows)
    × (length (tuples_of rows) ≤ length bytes) × (bytes ≡ tuples_of rows ++ replicate (length bytes - length (tuples_of rows)) 0)

-- a frame of this size may have these ends of tuples
abbrev pub HasSize : ℕ → ℕ → List ℕ → Type 0
HasSize unit size slots = (size ≡ unit) ⊎ ((unit < size) × (length slots ≡ 4) × IsLeast unit (word_in slots) size)
