use Rattle.std.proofs.Common.{◌≡◌}
use Rattle.hy_frame.specs.declared.writer.WriterState.TheVariants.{Opened}
use Rattle.hy_wire_runs.specs.Lines.{IsWriting}
use Rattle.wire_rates.proofs.rates.sent.Given as goal

abbrev pub invariant-loop : goal.invariant-loop
invariant-loop l = IsWriting l.line × (l.line.writer.state ≡ Opened)
