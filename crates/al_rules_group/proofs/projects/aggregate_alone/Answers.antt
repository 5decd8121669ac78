use Rattle.al_rules_group.proofs.Finding.{put_into, aggregate_put}
use Rattle.al_rules_group.proofs.projects.aggregate_alone.Goals as goal

pub returns : goal.returns
returns c = let h = c.in-Some.ensures in aggregate_put c.args.p.now h.0 c.in-Some.below.now c.in_ok-whole.whole h.1 h.2
    (put_into c.args.p.now c.in_ok-copy.field-0 c.in-Some.below.now c.in_ok-below.below c.in_ok-whole.whole 0 (c.in_ok-copy.ensures {u = tt}) (c.in_ok-below.ensures {u = tt}) (c.in_ok-whole.ensures {u = tt}))
