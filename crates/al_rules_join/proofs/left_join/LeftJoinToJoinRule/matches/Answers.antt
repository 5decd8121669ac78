use Rattle.al_rules_join.proofs.Matching.{yes_left_join_to_join}
use Rattle.al_rules_join.proofs.left_join.LeftJoinToJoinRule.matches.Goals as goal

pub returns-in-Some : goal.returns-in-Some
returns-in-Some c =
    let s = c.in-Some.field-0 in
    yes_left_join_to_join c.args.p.now s.cond.now s.join.cond.now s.join.left.now s.join.right.now c.in-Some.ensures.0 c.in-Some.ensures.1
