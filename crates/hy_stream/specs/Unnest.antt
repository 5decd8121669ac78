-- What contracts see of the operator that gives a row with each item of a generator behind it.
use Rattle.std.specs.Prelude.{◌≡◌, ◌+◌, ◌^◌, ℕ, List, [], ◌∷◌, ◌++◌, map, drop, None}
use Rattle.std.specs.List.{flat_map}
use Rattle.al_value.specs.declared.value.Value.{Value}
use Rattle.hy_driver.specs.Rows.{Row, Fed, values_of}
use Rattle.hy_driver.specs.Seen.{Fixed, Seen}
use Rattle.hy_driver.specs.Forms.{one_ended}
use Rattle.hy_job.specs.declared.nested.GenRex.{GenRex}
use Rattle.hy_job.specs.Columns.{expanded}
use Rattle.hy_job.specs.Drivers.{received_of}
use Rattle.hy_rows.specs.State.{row_state}
use Rattle.hy_stream.specs.declared.unnest.Unnest.{Unnest}

-- one for each item that a list may have
abbrev pub most_turns : ℕ
most_turns = 2 ^ 64

-- the row with each item behind it, from this place on
abbrev pub longer_rows : Row → List Value → ℕ → List Row
longer_rows row items at = map (λ x. row ++ x ∷ []) (drop at items)

-- each row that comes with each item behind it
abbrev pub unnest_out : GenRex → List Fed → List Row → Type 0
unnest_out g took out = out ≡ flat_map (expanded g) (received_of took 0)

abbrev pub unnest_fixed : Unnest → Fixed
unnest_fixed d = record { unit = d.settings.frame_size; memory = d.settings.memory; cost = most_turns; width = λ input. d.width; arity = d.width + 1; check = None }

abbrev pub unnest_seen : Unnest → Seen
unnest_seen d = row_state (unnest_fixed d) (unnest_out d.generator) (one_ended d.ended) (longer_rows (values_of d.row) d.items d.at) d.phase
