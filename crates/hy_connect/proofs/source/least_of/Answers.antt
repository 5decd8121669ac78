use Rattle.hy_connect.proofs.Leasts.{least_more}
use Rattle.hy_connect.proofs.source.least_of.Goals as goal

pub loop-k-preserved : goal.loop-k-preserved
loop-k-preserved c = least_more c.args.keys.now c.args.sources.now c.loop-k.k c.loop-k.least c.loop-k-test.true c.loop-k.invariant c.lesser-least.result c.lesser-least.ensures
