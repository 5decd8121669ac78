-- What contracts see of the driver that keeps the rows of a sort.
use Rattle.std.specs.Prelude.{Bool, List, [], map, None}
use Rattle.std.specs.List.{AllByRecursion}
use Rattle.std.specs.List.Sorted.{IsPermutation}
use Rattle.hy_frame.specs.Row.{Fields, IsRow}
use Rattle.hy_driver.specs.Rows.{Row, Fed, values_of}
use Rattle.hy_driver.specs.Seen.{Fixed, Seen, no_store, turns_in}
use Rattle.hy_driver.specs.Forms.{in_order, one_ended}
use Rattle.hy_driver.specs.Keep.{kept}
use Rattle.hy_driver.specs.Pass.{pass_out}
use Rattle.hy_driver.specs.declared.phase.Phase.{Phase}
use Rattle.hy_driver.specs.declared.phase.Phase.TheVariants.{Ended}
use Rattle.hy_job.specs.Drivers.{received_of}
use Rattle.hy_sort.specs.declared.build.SortBuild.{SortBuild}

-- the rows that come, in any order; once it has ended, as they came
abbrev pub build_out : Phase → List Fed → List Row → Type 0
build_out Ended took put = pass_out took put
build_out _ took put = IsPermutation (received_of took 0) put

abbrev pub build_fixed : SortBuild → Fixed
build_fixed d = record { unit = d.settings.frame_size; memory = d.settings.memory; cost = 1; width = λ input. d.width; arity = d.width; check = None }

-- that what it keeps are rows of the right width holds between its calls
abbrev pub build_state : Fixed → List Fields → Bool → Phase → Seen
build_state fixed rows ended phase = record {
  rest = in_order (one_ended ended) fixed.width [] (kept rows) (build_out phase);
  sound = AllByRecursion (IsRow fixed.arity) rows;
  ended = one_ended ended;
  phase = phase;
  turns = turns_in phase;
  frames = 0;
  untested = [];
  hands_on = map values_of rows;
  store = no_store;
  makes = λ took. 0;
  fixed = fixed;
}

abbrev pub build_seen : SortBuild → Seen
build_seen d = build_state (build_fixed d) d.rows d.ended d.phase
