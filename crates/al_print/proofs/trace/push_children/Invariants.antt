use Rattle.std.proofs.Common.{◌≡◌, ◌++◌, take}
use Rattle.std.specs.List.{flat_map}
use Rattle.al_print.specs.Traces.{after_slash}
use Rattle.al_print.proofs.trace.push_children.Given as goal

abbrev pub invariant-loop-child : goal.invariant-loop-child
invariant-loop-child l = l.text ≡ l.initial.text ++ flat_map after_slash (take l.child-index l.place)
