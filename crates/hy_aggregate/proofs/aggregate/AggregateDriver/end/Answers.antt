use Rattle.std.proofs.Common.{refl}
use Rattle.hy_driver.proofs.Forms.{ends_one}
use Rattle.hy_aggregate.specs.Aggregate.{agg_fixed}
use Rattle.hy_aggregate.proofs.Aggregating.{agg_stays}
use Rattle.hy_aggregate.proofs.aggregate.AggregateDriver.end.Goals as goal

pub returns-clause-told : goal.returns-clause-told
returns-clause-told c = let d = c.args.self.now in agg_stays (agg_fixed d) refl d.work d.states.items d.last d.ended _ d.phase d.phase (ends_one d.ended)
