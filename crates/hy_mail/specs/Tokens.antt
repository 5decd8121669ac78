-- What the code keeps below its contracts: which queue it is.
use Rattle.std.specs.Prelude.{Option}
use Rattle.atomic_table.specs.Seated.{TableId}
use Rattle.crossbeam_queue.specs.declared.array_queue.Doing.{Doing}
use Rattle.crossbeam_queue.specs.declared.array_queue.Slotted.{Slotted}

abbrev pub id_of : {T V Q A : Type 0} → Slotted (Option T) (Doing T V) Q A → TableId
id_of q = q.table.shared.table_id
