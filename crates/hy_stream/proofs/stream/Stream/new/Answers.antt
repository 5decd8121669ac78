use Rattle.hy_stream.proofs.StreamLaws.{stream_new}
use Rattle.hy_stream.proofs.stream.Stream.new.Goals as goal

pub returns-clause-new : goal.returns-clause-new
returns-clause-new c n scanned handed = stream_new _ _ c.args.work _ c.first-window.ensures _ n c.args._partition scanned handed
