use Rattle.std.proofs.Common.{sym, ◌∙◌}
use Rattle.al_rules_join.proofs.Matching.{other_left_join_to_join}
use Rattle.al_rules_join.proofs.left_join.compared.Goals as goal

pub returns-else-compares : goal.returns-else-compares
returns-else-compares c =
    let s = c.in_ok-select.select in
    other_left_join_to_join c.args.p.now s.cond.now s.join.cond.now s.join.left.now s.join.right.now (c.in_ok-select.ensures {u = tt}) (sym c.compares.ensures ∙ c.if-compares.false)
