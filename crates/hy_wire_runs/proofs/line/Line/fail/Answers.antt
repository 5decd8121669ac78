use Rattle.std.proofs.Common.{arith}
use Rattle.hy_wire_runs.proofs.LineRuns.{writes_on}
use Rattle.hy_wire_runs.proofs.line.Line.fail.Goals as goal

pub returns-clause-line : goal.returns-clause-line
returns-clause-line c =
    let l = c.args.self.now in
    let e = c.fail.ensures in
    writes_on 0 0 l.first l.behind l.writer c.fail.new.self l.bank c.fail.new.bank l.desk c.requires.line e.told.still e.told.words e.bank (omega (arith, e.out, e.empty, c.requires.line.out))
