use Rattle.std.proofs.Common.{rules, refl, []}
use Rattle.hy_rows.specs.State.{row_state, two_ended}
use Rattle.hy_stream.specs.Stream.{stream_fixed, stream_seen}
use Rattle.hy_stream.specs.Work.{work_out}
use Rattle.hy_stream.proofs.StreamLaws.{holds_none, stream_faulted, stream_fed}
use Rattle.hy_stream.proofs.stream.StreamDriver.feed.Goals as goal

pub returns-in-Ok-clause-told : goal.returns-in-Ok-clause-told
returns-in-Ok-clause-told c values are is =
    let d = c.args.self.now in
    stream_fed (stream_fixed d) d.work refl d.window _ (two_ended d.ended d.right_ended) d.row _ _ d.holds _ d.phase c.args.input values (holds_none d.holds d.phase c.requires.hungry d.works) c.requires.to_come (search rules) are (search rules) c.in-Ok.ensures.told

pub returns-in-Err-clause-told : goal.returns-in-Err-clause-told
returns-in-Err-clause-told c values are is =
    let d = c.args.self.now in
    stream_faulted (stream_fixed d) d.work refl (stream_seen d) (row_state (stream_fixed d) (work_out d.work c.work_on.new.window) (two_ended d.ended d.right_ended) [] d.phase) _ values _ refl refl are (search rules) c.in-Err.ensures.told
