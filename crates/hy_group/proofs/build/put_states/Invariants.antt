use Rattle.std.proofs.Common.{◌≡◌, ◌++◌, flat_map, take}
use Rattle.al_agg.specs.Part.{part_fields}
use Rattle.hy_group.proofs.build.put_states.Given as goal

abbrev pub invariant-loop-part : goal.invariant-loop-part
invariant-loop-part l = l.row ≡ l.initial.row ++ flat_map part_fields (take l.part-index l.states)
