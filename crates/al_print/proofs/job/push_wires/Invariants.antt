use Rattle.std.proofs.Common.{◌≡◌, ◌++◌, take}
use Rattle.std.specs.List.{flat_map}
use Rattle.al_print.specs.Jobs.{wire_line}
use Rattle.al_print.proofs.job.push_wires.Given as goal

abbrev pub invariant-loop-edge : goal.invariant-loop-edge
invariant-loop-edge l = l.text ≡ l.initial.text ++ flat_map wire_line (take l.edge-index l.edges)
