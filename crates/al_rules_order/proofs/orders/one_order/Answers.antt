use Rattle.al_rules_order.proofs.Finding.{put_into, ordered_once}
use Rattle.al_rules_order.proofs.orders.one_order.Goals as goal

pub returns : goal.returns
returns c = ordered_once c.args.p.now c.in_ok-whole.whole c.in-Some.below.now c.in-Some.ensures
    (put_into c.args.p.now c.in_ok-copy.field-0 c.in-Some.below.now c.in_ok-below.below c.in_ok-whole.whole 0 (c.in_ok-copy.ensures {u = tt}) (c.in_ok-below.ensures {u = tt}) (c.in_ok-whole.ensures {u = tt}))
