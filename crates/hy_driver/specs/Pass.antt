-- What contracts see of the driver that passes all rows on.
use Rattle.std.specs.Prelude.{◌≡◌, ◌+◌, Bool, if◌then◌else◌, List, [], ◌∷◌, map, None}
use Rattle.hy_frame.specs.Row.{Fields}
use Rattle.hy_driver.specs.Rows.{Row, Fed, values_of}
use Rattle.hy_driver.specs.Seen.{Fixed, Seen, turns_in}
use Rattle.hy_driver.specs.Forms.{in_order, one_ended, storeless}
use Rattle.hy_driver.specs.declared.phase.Phase.{Phase}
use Rattle.hy_driver.specs.declared.pass.PassRows.{PassRows}

-- the rows that come, as they come
abbrev pub pass_out : List Fed → List Row → Type 0
pass_out took put = put ≡ map (λ x. x.1) took

-- the row that it holds, where it holds one
abbrev pub held_row : Bool → Fields → List Fed
held_row holds row = if holds then (0, values_of row) ∷ [] else []

abbrev pub pass_fixed : PassRows → Fixed
pass_fixed d = record { unit = d.settings.frame_size; memory = d.settings.memory; cost = 2; width = λ input. d.width; arity = d.width; check = None }

abbrev pub pass_state : Fixed → Fields → Bool → Bool → Phase → Seen
pass_state fixed row holds ended phase =
    storeless (in_order (one_ended ended) fixed.width [] (held_row holds row) pass_out) (one_ended ended) phase ((if holds then 1 else 0) + turns_in phase) [] [] fixed

abbrev pub pass_seen : PassRows → Seen
pass_seen d = pass_state (pass_fixed d) d.row d.holds d.ended d.phase
