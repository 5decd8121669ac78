use Rattle.hy_wire_runs.specs.Desks.{AreFree, IsDesk}
use Rattle.hy_connect_tests.proofs.merges.sent.Given as goal

abbrev pub invariant-loop-s : goal.invariant-loop-s
invariant-loop-s l = IsDesk l.desk × AreFree l.s l.desk
