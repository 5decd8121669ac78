use Rattle.std.proofs.Common.{rules}
use Rattle.al_rules_prune.proofs.MatchLaws.{none_join, other_join, narrow_join}
use Rattle.al_rules_prune.proofs.join.wide_join.Goals as goal

pub returns-in_default : goal.returns-in_default
returns-in_default c = none_join c.args.p.now (search rules)

pub returns-in_default-join_sides : goal.returns-in_default-join_sides
returns-in_default-join_sides c = other_join c.args.p.now c.in-Some.vars.now c.in-Some.over.now (search rules) (search rules)

pub returns-in_default-wide_side : goal.returns-in_default-wide_side
returns-in_default-wide_side c =
    let s = c.in-Some-join_sides.join in
    narrow_join c.args.p.now c.in-Some.vars.now c.in-Some.over.now s.outer s.cond.now s.left.now s.right.now (search rules) (search rules) (search rules)
