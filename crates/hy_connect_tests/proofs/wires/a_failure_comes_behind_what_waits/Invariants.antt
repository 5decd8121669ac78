use Rattle.hy_wire_runs.specs.Lines.{IsLine}
use Rattle.hy_connect_tests.proofs.wires.a_failure_comes_behind_what_waits.Given as goal

abbrev pub invariant-loop-k : goal.invariant-loop-k
invariant-loop-k g l = IsLine l.line
