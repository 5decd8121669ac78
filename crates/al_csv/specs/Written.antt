-- A writer of lines into bytes, between two lines.
use Rattle.std.specs.Prelude.{◌≡◌, ℕ, List, Some, true, false, Vec}
use Rattle.csv.specs.Writing.{default_writer, fields_written, has_written, text_written, with_flexible, writer_setup}
use Rattle.csv.specs.declared.writer.Writer.{Writer}

-- what it wrote so far is this text, and no line is begun
abbrev pub Wrote : {Z : Type 0} → Writer (Vec ℕ Z) → List ℕ → Type 0
Wrote w text = (text_written (λ v. Some v.items) w ≡ Some text) × (writer_setup w ≡ with_flexible default_writer true) × (fields_written w ≡ 0) × (has_written w ≡ false)
