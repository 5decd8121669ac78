-- The rows that stand in bytes, and what a row and a frame keep of them.
use Rattle.std.specs.Prelude.{◌≡◌, ◌+◌, ◌*◌, ◌-◌, ◌^◌, ◌<◌, ◌≤◌, ℕ, zero, suc, List, [], ◌∷◌, length, take, drop}
use Rattle.std.specs.List.{concat}
use Rattle.hy_frame.specs.Row.{Fields, AllFields, field_ends}
use Rattle.hy_frame.specs.FrameText.{AllRows, tuples_of, taken, frame_bytes, IsAlone}
use Rattle.hy_frame.specs.Word.{word_in}

-- the fields, by where each ends
abbrev pub cut_row : ℕ → ℕ → List ℕ → List ℕ → Fields
cut_row zero start ends fields = []
cut_row (suc n) start ends fields =
    take (word_in ends - start) fields ∷ cut_row n (word_in ends) (drop 4 ends) (drop (word_in ends - start) fields)

-- the rows, by where each tuple ends, the last in front
abbrev pub cut_rows : ℕ → ℕ → ℕ → List ℕ → List ℕ → List Fields
cut_rows arity zero start slots tuples = []
cut_rows arity (suc n) start slots tuples =
    let end : ℕ = word_in (drop (4 * n) slots) in
    let tuple : List ℕ = take (end - start) tuples in
    cut_row arity 0 tuple (drop (4 * arity) tuple) ∷ cut_rows arity n end slots (drop (end - start) tuples)

-- the rows in a frame that holds this many
abbrev pub frame_rows : ℕ → ℕ → List ℕ → List Fields
frame_rows arity n bytes = cut_rows arity n 0 (drop (length bytes - 4 - 4 * n) bytes) bytes

-- the ends and the fields of a row
pub record HoldsRow (n : ℕ) (ends fields : List ℕ) : Type 0 where
  pub fields_are : AllFields (cut_row n 0 ends fields)
  pub counted : length (cut_row n 0 ends fields) ≡ n
  pub ends_is : ends ≡ field_ends 0 (cut_row n 0 ends fields)
  pub fields_is : fields ≡ concat (cut_row n 0 ends fields)
  pub reached : length fields < 2 ^ 32

-- the bytes of a frame of this unit, which holds n rows whose tuples end at `used`
pub record HoldsRows (arity unit n used : ℕ) (bytes : List ℕ) : Type 0 where
  pub least_unit : 256 ≤ unit
  pub most_unit : unit ≤ 65536
  pub rows_are : AllRows arity (frame_rows arity n bytes)
  pub counted : length (frame_rows arity n bytes) ≡ n
  pub used_is : length (tuples_of (frame_rows arity n bytes)) ≡ used
  pub whole : unit ≤ length bytes
  pub room : taken (frame_rows arity n bytes) + 4 ≤ length bytes
  pub alone : unit < length bytes → 0 < n → IsAlone unit (frame_rows arity n bytes) (length bytes)
  pub reached : 0 < n → length bytes < 2 ^ 32
  pub is : bytes ≡ frame_bytes (length bytes) (frame_rows arity n bytes)
