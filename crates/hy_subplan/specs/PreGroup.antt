-- What contracts see of the operator that gives a row for each stretch of rows with equal keys.
use Rattle.std.specs.Prelude.{None}
use Rattle.hy_driver.specs.Seen.{Fixed, Seen}
use Rattle.hy_subplan.specs.Stretch.{pre_state}
use Rattle.hy_subplan.specs.Held.{held_row}
use Rattle.hy_subplan.specs.declared.pre_group.PreGroup.{PreGroup}

abbrev pub pre_fixed : PreGroup → Fixed
pre_fixed d = record { unit = d.settings.frame_size; memory = d.settings.memory; cost = 3; width = λ input. d.width; arity = d.arity; check = None }

abbrev pub pre_seen : PreGroup → Seen
pre_seen d = pre_state (pre_fixed d) d.keys d.nested d.ended (held_row d.holds d.row) d.rows d.phase
