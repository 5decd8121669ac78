use Rattle.al_rules_group.proofs.Finding.{distinct_over_no_distinct}
use Rattle.al_rules_group.proofs.distincts.distinct_below.Goals as goal

pub returns-else-is_distinct : goal.returns-else-is_distinct
returns-else-is_distinct c = distinct_over_no_distinct c.args.p.now c.in-Some.below.now c.in-Some.ensures c.if-is_distinct.ensures
