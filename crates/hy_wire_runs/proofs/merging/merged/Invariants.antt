use Rattle.hy_wire_runs.specs.Desks.{IsDesk}
use Rattle.hy_wire_runs.specs.Merging.{HasAtHand}
use Rattle.hy_wire_runs.proofs.merging.merged.Given as goal

abbrev pub invariant-loop : goal.invariant-loop
invariant-loop g l = IsDesk l.desk × HasAtHand l.taker l.bank
