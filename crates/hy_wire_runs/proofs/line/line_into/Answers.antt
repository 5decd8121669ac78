use Rattle.std.proofs.Common.{ap}
use Rattle.hy_wire_runs.proofs.LineRuns.{begins}
use Rattle.hy_wire_runs.proofs.line.line_into.Goals as goal

pub returns-clause-line : goal.returns-clause-line
returns-clause-line c =
    let e = c.open.ensures in
    let bank = c.new.ensures in
    begins c.args.first c.args.count c.args.unit c.in_ok-writer.writer c.open.new.self c.new.result c.args.desk c.in_ok-writer.ensures c.requires.desk c.requires.free c.requires.few e.told.still e.held e.told.words
    (ap (λ b. b.unit) bank) (ap (λ b. b.limit) bank) (ap (λ b. b.out) bank)
