use Rattle.hy_rows.specs.State.{two_ended}
use Rattle.hy_stream.specs.Stream.{stream_fixed}
use Rattle.hy_stream.proofs.StreamLaws.{left_ends, right_ends, stream_stays}
use Rattle.hy_stream.proofs.stream.StreamDriver.end.Goals as goal

pub returns-then-input-eq0-clause-told : goal.returns-then-input-eq0-clause-told
returns-then-input-eq0-clause-told c = let d = c.args.self.now in stream_stays (stream_fixed d) d.work d.window (two_ended d.ended d.right_ended) _ d.holds d.row d.phase d.phase (left_ends d.ended d.right_ended)

pub returns-clause-told : goal.returns-clause-told
returns-clause-told c = let d = c.args.self.now in stream_stays (stream_fixed d) d.work d.window (two_ended d.ended d.right_ended) _ d.holds d.row d.phase d.phase (right_ends d.ended d.right_ended)
