use Rattle.al_rules_order.proofs.Finding.{assign_lowers}
use Rattle.al_rules_order.proofs.limits.assign_of_limit.Goals as goal

pub returns-in_ok-lowered-in-Some : goal.returns-in_ok-lowered-in-Some
returns-in_ok-lowered-in-Some c =
    let l = c.in-Some.over.limit in
    assign_lowers c.args.p.now l.input.now c.in-Some.over.below.now c.in_ok-lowered-in-Some.field-0 l.n l.k c.in-Some.ensures.0 c.in-Some.ensures.1 (c.in_ok-lowered-in-Some.ensures {u = tt})
