use Rattle.hy_wire_runs.proofs.LineRuns.{room_for_one}
use Rattle.hy_wire_runs.proofs.line.Line.write_alone.Goals as goal

pub frame_alone-requires : goal.frame_alone-requires
frame_alone-requires c = let l = c.args.self.now in room_for_one l.first l.behind l.writer l.bank l.desk c.requires.line
