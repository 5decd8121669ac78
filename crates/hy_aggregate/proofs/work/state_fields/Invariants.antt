use Rattle.std.proofs.Common.{◌≡◌, take}
use Rattle.std.specs.List.{flat_map}
use Rattle.al_agg.specs.Part.{part_fields}
use Rattle.hy_aggregate.proofs.work.state_fields.Given as goal

abbrev pub invariant-loop-part : goal.invariant-loop-part
invariant-loop-part l = l.row ≡ flat_map part_fields (take l.part-index l.states)
