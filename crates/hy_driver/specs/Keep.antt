-- What contracts see of the driver that keeps all rows.
use Rattle.std.specs.Prelude.{Bool, List, [], map, None}
use Rattle.std.specs.List.{AllByRecursion}
use Rattle.hy_frame.specs.Row.{Fields, IsRow}
use Rattle.hy_driver.specs.Rows.{Fed, values_of}
use Rattle.hy_driver.specs.Seen.{Fixed, Seen, no_store, turns_in}
use Rattle.hy_driver.specs.Forms.{in_order, one_ended}
use Rattle.hy_driver.specs.Pass.{pass_out}
use Rattle.hy_driver.specs.declared.phase.Phase.{Phase}
use Rattle.hy_driver.specs.declared.keep.KeepRows.{KeepRows}

abbrev pub kept : List Fields → List Fed
kept rows = map (λ row. (0, values_of row)) rows

abbrev pub keep_fixed : KeepRows → Fixed
keep_fixed d = record { unit = d.settings.frame_size; memory = d.settings.memory; cost = 1; width = λ input. d.width; arity = d.width; check = None }

-- that what it keeps are rows of the right width holds between its calls
abbrev pub keep_state : Fixed → List Fields → Bool → Phase → Seen
keep_state fixed rows ended phase = record {
  rest = in_order (one_ended ended) fixed.width [] (kept rows) pass_out;
  sound = AllByRecursion (IsRow fixed.arity) rows;
  ended = one_ended ended;
  phase = phase;
  turns = turns_in phase;
  frames = 0;
  untested = [];
  hands_on = map values_of rows;
  store = no_store;
  makes = λ took. 0;
  fixed = fixed;
}

abbrev pub keep_seen : KeepRows → Seen
keep_seen d = keep_state (keep_fixed d) d.rows d.ended d.phase
