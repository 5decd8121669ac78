use Rattle.hy_connect.proofs.Merger.{begins}
use Rattle.hy_connect.proofs.merge.MergeTaker.new.Goals as goal

pub returns-clause-begins : goal.returns-clause-begins
returns-clause-begins c = begins c.args.wire.now c.in_ok-keys.keys c.args.boxes.now c.in_ok-sources.sources.items c.args.senders c.requires.wire c.in_ok-keys.ensures c.in_ok-sources.ensures c.requires.boxes
