-- What contracts see of the driver of aggregates without keys.
use Rattle.std.specs.Prelude.{◌+◌, ℕ, Bool, true, false, if◌then◌else◌, List, [], None}
use Rattle.al_agg.specs.declared.part.Part.{Part}
use Rattle.hy_driver.specs.Rows.{Fed}
use Rattle.hy_driver.specs.Seen.{Fixed, Seen, no_store, turns_in}
use Rattle.hy_driver.specs.Forms.{free_for_each, one_ended}
use Rattle.hy_driver.specs.declared.phase.Phase.{Phase}
use Rattle.hy_job.specs.Drivers.{received_of}
use Rattle.hy_job.specs.Sound.{Widths}
use Rattle.hy_aggregate.specs.declared.work.AggWork.{AggWork}
use Rattle.hy_aggregate.specs.Work.{HaveTaken, agg_out}
use Rattle.hy_aggregate.specs.declared.aggregate.Aggregate.{Aggregate}

abbrev pub widths_of : ℕ → Widths
widths_of width = record { taken = λ input. width; handed = 0; built = 0 }

abbrev pub agg_fixed : Aggregate → Fixed
agg_fixed d = record { unit = d.settings.frame_size; memory = d.settings.memory; cost = 1; width = λ input. d.width; arity = d.arity; check = None }

-- the rows for which the states stand; once their row was given, any
abbrev pub StandsFor : AggWork → Bool → List Part → List Fed → Type 0
StandsFor work true states held = HaveTaken work (received_of held 0) states
StandsFor work false states held = Unit {0}

-- that its states stand for some rows holds between its calls
abbrev pub agg_state : Fixed → AggWork → List Part → Bool → Bool → Phase → Seen
agg_state fixed work states last ended phase = record {
  rest = free_for_each (one_ended ended) fixed.width [] (StandsFor work last states) (agg_out work last);
  sound = (held : List Fed) × StandsFor work last states held;
  ended = one_ended ended;
  phase = phase;
  turns = (if last then 2 else 0) + turns_in phase;
  frames = 0;
  untested = [];
  hands_on = [];
  store = no_store;
  makes = λ took. 0;
  fixed = fixed;
}

abbrev pub agg_seen : Aggregate → Seen
agg_seen d = agg_state (agg_fixed d) d.work d.states.items d.last d.ended d.phase
