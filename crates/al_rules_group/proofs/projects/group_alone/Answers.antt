use Rattle.al_rules_group.proofs.Finding.{put_into, group_put}
use Rattle.al_rules_group.proofs.projects.group_alone.Goals as goal

pub returns : goal.returns
returns c = let h = c.in-Some.ensures in group_put c.args.p.now h.0 h.1 c.in-Some.below.now c.in_ok-whole.whole h.2 h.3 h.4
    (put_into c.args.p.now c.in_ok-copy.field-0 c.in-Some.below.now c.in_ok-below.below c.in_ok-whole.whole 1 (c.in_ok-copy.ensures {u = tt}) (c.in_ok-below.ensures {u = tt}) (c.in_ok-whole.ensures {u = tt}))
