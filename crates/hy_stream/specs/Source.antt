-- What contracts see of the operators without inputs.
use Rattle.std.specs.Prelude.{◌≡◌, ℕ, Bool, if◌then◌else◌, List, [], ◌∷◌, None}
use Rattle.hy_driver.specs.Rows.{Row, Fed}
use Rattle.hy_driver.specs.Seen.{Fixed, Seen}
use Rattle.hy_driver.specs.Forms.{one_ended}
use Rattle.hy_rows.specs.State.{row_state}
use Rattle.hy_stream.specs.Places.{own_of}
use Rattle.hy_stream.specs.declared.source.Scan.{Scan}
use Rattle.hy_stream.specs.declared.source.One.{One}

-- the one row without values, where it is still to come
abbrev pub one_row : Bool → List Row
one_row gives = if gives then [] ∷ [] else []

-- nothing comes of any row
abbrev pub nothing_out : List Fed → List Row → Type 0
nothing_out took out = out ≡ []

abbrev pub source_fixed : ℕ → ℕ → ℕ → Fixed
source_fixed unit memory arity = record { unit = unit; memory = memory; cost = 1; width = λ input. 0; arity = arity; check = None }

abbrev pub scan_fixed : Scan → Fixed
scan_fixed d = source_fixed d.settings.frame_size d.settings.memory d.arity

abbrev pub scan_seen : Scan → Seen
scan_seen d = row_state (scan_fixed d) nothing_out (one_ended d.ended) (own_of d.settings.partitions d.partition d.at d.rows.now) d.phase

abbrev pub one_fixed : One → Fixed
one_fixed d = source_fixed d.settings.frame_size d.settings.memory 0

abbrev pub one_seen : One → Seen
one_seen d = row_state (one_fixed d) nothing_out (one_ended d.ended) (one_row d.gives) d.phase
