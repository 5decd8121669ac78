use Rattle.std.proofs.Common.{arith}
use Rattle.hy_wire_runs.proofs.LineRuns.{room_for_all, writes_on}
use Rattle.hy_wire_runs.proofs.line.Line.write_frame.Goals as goal

pub next_frame-requires-clause-room : goal.next_frame-requires-clause-room
next_frame-requires-clause-room c = let l = c.args.self.now in room_for_all 1 l.first l.behind l.writer l.bank l.desk c.requires.line (omega arith)

pub returns-in-Ok-clause-line : goal.returns-in-Ok-clause-line
returns-in-Ok-clause-line c =
    let l = c.args.self.now in
    let e = c.in-Ok.ensures in
    let out = e.out in
    writes_on 1 0 l.first l.behind l.writer c.next_frame.new.self l.bank c.next_frame.new.bank l.desk c.requires.line e.told.still e.told.words e.bank (omega (arith, out, c.requires.line.out))
