use Rattle.hy_aggregate.proofs.Aggregating.{agg_new}
use Rattle.hy_aggregate.proofs.aggregate.Aggregate.new.Goals as goal

pub returns-in-Ok-clause-new : goal.returns-in-Ok-clause-new
returns-in-Ok-clause-new c n scanned handed = agg_new _ c.args.work c.in-Ok.states.items c.gives-last.result c.args.arity n c.args.partition scanned handed c.gives-last.ensures c.in-Ok.ensures
