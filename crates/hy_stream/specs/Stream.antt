-- What contracts see of an operator that works on each row alone.
use Rattle.std.specs.Prelude.{ℕ, zero, suc}
use Rattle.hy_driver.specs.Seen.{Fixed, Seen}
use Rattle.hy_rows.specs.State.{row_state, two_ended}
use Rattle.hy_job.specs.Sound.{Widths}
use Rattle.hy_stream.specs.Work.{check_of, held_row, work_out}
use Rattle.hy_stream.specs.declared.stream.Shape.{Shape}
use Rattle.hy_stream.specs.declared.stream.Stream.{Stream}

-- how wide the rows of an input are
abbrev pub width_of : Shape → ℕ → ℕ
width_of shape zero = shape.width
width_of shape (suc input) = shape.right_width

abbrev pub widths_of : Shape → Widths
widths_of shape = record { taken = width_of shape; handed = 0; built = 0 }

abbrev pub stream_fixed : Stream → Fixed
stream_fixed d = record { unit = d.settings.frame_size; memory = d.settings.memory; cost = 2; width = width_of d.shape; arity = d.shape.arity; check = check_of d.work }

abbrev pub stream_seen : Stream → Seen
stream_seen d = row_state (stream_fixed d) (work_out d.work d.window) (two_ended d.ended d.right_ended) (held_row d.holds d.row) d.phase
