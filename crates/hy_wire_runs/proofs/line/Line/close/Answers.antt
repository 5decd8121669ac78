use Rattle.hy_wire_runs.proofs.LineRuns.{goes_on}
use Rattle.hy_wire_runs.proofs.line.Line.close.Goals as goal

pub returns-clause-line : goal.returns-clause-line
returns-clause-line c =
    let l = c.args.self.now in
    let e = c.close.ensures in
    goes_on l.first l.behind l.writer c.close.new.self l.desk c.requires.line.offers e.told.still e.told.words
