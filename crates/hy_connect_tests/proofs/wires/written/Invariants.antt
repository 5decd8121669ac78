use Rattle.std.proofs.Common.{◌≡◌}
use Rattle.hy_frame.specs.declared.writer.WriterState.TheVariants.{Opened}
use Rattle.hy_wire_runs.specs.Lines.{IsWriting}
use Rattle.hy_connect_tests.proofs.wires.written.Given as goal

abbrev pub invariant-loop-pairs : goal.invariant-loop-pairs
invariant-loop-pairs l = IsWriting l.line × (l.line.writer.state ≡ Opened)
