use Rattle.al_rules_order.proofs.Finding.{no_assign_below}
use Rattle.al_rules_order.proofs.limits.limit_over_assign.Goals as goal

pub returns-in-None : goal.returns-in-None
returns-in-None c = let l = c.in-Some.limit in no_assign_below c.args.p.now l.input.now l.n l.k c.in-Some.ensures c.in-None.ensures
