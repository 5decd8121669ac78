-- What contracts see of the driver that orders the rows of a sort and gives them.
use Rattle.std.specs.Prelude.{◌+◌, ℕ, suc, Bool, true, false, List, [], map, drop, length, None}
use Rattle.al_value.specs.declared.settings.SortKey.{SortKey}
use Rattle.hy_frame.specs.Row.{Fields}
use Rattle.hy_driver.specs.Rows.{Row, Fed, values_of}
use Rattle.hy_driver.specs.Seen.{Fixed, Seen, turns_in}
use Rattle.hy_driver.specs.Forms.{in_order, one_ended, storeless}
use Rattle.hy_driver.specs.declared.phase.Phase.{Phase}
use Rattle.hy_job.specs.declared.job.Kind.TheVariants as K
use Rattle.hy_job.specs.Drivers.{Left, driver_out}
use Rattle.hy_sort.specs.declared.emit.SortEmit.{SortEmit}

abbrev pub left_of : List Row → Left
left_of rows = record { skip = 0; give = 0; own = []; handed = rows; last = false }

-- the output where these rows are still to be ordered
abbrev pub emit_out : List SortKey → List Row → List Fed → List Row → Type 0
emit_out keys rows = driver_out (K.SortEmit keys) 0 (left_of rows)

-- the rows that are still to be ordered
abbrev pub unordered : Bool → List Fields → List Row
unordered true rows = []
unordered false rows = map values_of rows

-- the ordered rows that are still to be given
abbrev pub owed : Bool → ℕ → List Fields → List Row
owed true at rows = map values_of (drop at rows)
owed false at rows = []

-- one turn for each row, and one for ordering them
abbrev pub turns_for : Bool → ℕ → List Fields → ℕ
turns_for true at rows = length (map values_of (drop at rows))
turns_for false at rows = suc (length rows)

abbrev pub emit_fixed : SortEmit → Fixed
emit_fixed d = record { unit = d.settings.frame_size; memory = d.settings.memory; cost = 1; width = λ input. 0; arity = d.arity; check = None }

abbrev pub emit_state : Fixed → List SortKey → List Fields → Bool → ℕ → Bool → Phase → Seen
emit_state fixed keys rows sorted at ended phase =
    storeless (in_order (one_ended ended) fixed.width (owed sorted at rows) [] (emit_out keys (unordered sorted rows))) (one_ended ended) phase (turns_for sorted at rows + turns_in phase) [] [] fixed

abbrev pub emit_seen : SortEmit → Seen
emit_seen d = emit_state (emit_fixed d) d.keys d.rows.items d.sorted d.at d.ended d.phase
