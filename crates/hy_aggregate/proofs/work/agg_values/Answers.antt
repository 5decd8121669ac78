use Rattle.hy_aggregate.proofs.Lasting.{values_more}
use Rattle.hy_aggregate.proofs.work.agg_values.Goals as goal

pub loop-part-preserved : goal.loop-part-preserved
loop-part-preserved c = values_more c.loop-part.yielded c.loop-part.row c.push.new.self c.in-Some.part c.finish.result c.loop-part.invariant c.finish.ensures c.in_ok-push.ensures.ok
