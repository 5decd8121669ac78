-- How wide the rows are that the drivers of groups see.
use Rattle.std.specs.Prelude.{ℕ}
use Rattle.hy_job.specs.Sound.{Widths}

-- those of a driver that builds groups: of the rows that come
abbrev pub build_widths : ℕ → Widths
build_widths width = record { taken = λ input. width; handed = 0; built = 0 }

-- those of one that gives groups: of the rows that are handed to it, and of those that came to the first driver
abbrev pub emit_widths : ℕ → ℕ → Widths
emit_widths handed built = record { taken = λ input. 0; handed = handed; built = built }
