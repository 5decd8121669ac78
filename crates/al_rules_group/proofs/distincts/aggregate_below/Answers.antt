use Rattle.al_rules_group.proofs.Finding.{distinct_over_no_aggregate}
use Rattle.al_rules_group.proofs.distincts.aggregate_below.Goals as goal

pub returns-else-is_aggregate : goal.returns-else-is_aggregate
returns-else-is_aggregate c = distinct_over_no_aggregate c.args.p.now c.in-Some.below.now c.in-Some.ensures c.if-is_aggregate.ensures
