use Rattle.al_rules_group.proofs.Finding.{distinct_over_no_group}
use Rattle.al_rules_group.proofs.distincts.group_below.Goals as goal

pub returns-else-is_group : goal.returns-else-is_group
returns-else-is_group c = distinct_over_no_group c.args.p.now c.in-Some.below.now c.in-Some.ensures c.if-is_group.ensures
