use Rattle.hy_wire_runs.specs.Lines.{IsLine}
use Rattle.hy_wire_runs.proofs.line.Line.put.Given as goal

abbrev pub invariant-loop-put : goal.invariant-loop-put
invariant-loop-put l = IsLine l.self
