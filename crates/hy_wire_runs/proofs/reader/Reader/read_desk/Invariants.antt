use Rattle.hy_wire_runs.specs.Desks.{IsDesk, KeepsWords}
use Rattle.hy_wire_runs.specs.Readers.{IsReader}
use Rattle.hy_wire_runs.proofs.reader.Reader.read_desk.Given as goal

abbrev pub invariant-loop : goal.invariant-loop
invariant-loop g l = IsDesk l.desk × KeepsWords l.fn.desk l.desk × IsReader l.self
