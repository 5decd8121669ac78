use Rattle.hy_wire_runs.proofs.LineRuns.{new_line}
use Rattle.hy_wire_runs.proofs.line.writer_over.Goals as goal

pub returns : goal.returns
returns c = new_line c.args.wire.now c.args.boxes.now c.args.first c.args.unit c.in_ok-new.field-0 c.requires.numbers c.requires.few c.in_ok-new.ensures
