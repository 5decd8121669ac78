-- What contracts see of the operator that gives each row with the row of a nested plan behind it.
use Rattle.std.specs.Prelude.{List, None}
use Rattle.hy_driver.specs.Rows.{Row, Fed}
use Rattle.hy_driver.specs.Seen.{Fixed, Seen}
use Rattle.hy_driver.specs.Forms.{one_ended}
use Rattle.hy_job.specs.declared.nested.NestedPlan.{NestedPlan}
use Rattle.hy_job.specs.Drivers.{received_of}
use Rattle.hy_job.specs.Nested.{IsNested}
use Rattle.hy_rows.specs.State.{row_state}
use Rattle.hy_subplan.specs.Held.{held_row}
use Rattle.hy_subplan.specs.declared.subplan.Subplan.{Subplan}

-- each row that comes with the nested plan's row for it behind it
abbrev pub subplan_out : NestedPlan → List Fed → List Row → Type 0
subplan_out n took out = IsNested n (received_of took 0) out

abbrev pub subplan_fixed : Subplan → Fixed
subplan_fixed d = record { unit = d.settings.frame_size; memory = d.settings.memory; cost = 2; width = λ input. d.width; arity = d.arity; check = None }

abbrev pub subplan_seen : Subplan → Seen
subplan_seen d = row_state (subplan_fixed d) (subplan_out d.nested) (one_ended d.ended) (held_row d.holds d.row) d.phase
