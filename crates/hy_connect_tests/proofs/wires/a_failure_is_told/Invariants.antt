use Rattle.hy_connect.specs.Takers.{ComesAsPut}
use Rattle.hy_wire_runs.specs.Lines.{IsLine}
use Rattle.hy_connect_tests.proofs.wires.a_failure_is_told.Given as goal

abbrev pub invariant-loop-k : goal.invariant-loop-k
invariant-loop-k g l = ComesAsPut l.wire × IsLine l.line
