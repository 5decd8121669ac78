-- A piece that is written over others in a list.
use Rattle.std.specs.Prelude.{ℕ, ◌+◌, ◌*◌, ◌-◌, List, ◌++◌, length, take, drop}
use Rattle.std.specs.List.{concat}
use Rattle.hy_frame.specs.Row.{Fields, field_ends, row_size}
use Rattle.hy_frame.specs.Word.{word_bytes}

abbrev pub put_at : ℕ → List ℕ → List ℕ → List ℕ
put_at at piece xs = take at xs ++ (piece ++ drop (at + length piece) xs)

-- a frame's bytes with one row more, behind n others that end at `used`
abbrev pub with_row : ℕ → ℕ → Fields → List ℕ → List ℕ
with_row n used row bytes =
    let ends : List ℕ = put_at used (field_ends 0 row) bytes in
    let fields : List ℕ = put_at (used + length (field_ends 0 row)) (concat row) ends in
    let slot : List ℕ = put_at (length bytes - 8 - 4 * n) (word_bytes (used + row_size row)) fields in
    put_at (length bytes - 4) (word_bytes (n + 1)) slot
