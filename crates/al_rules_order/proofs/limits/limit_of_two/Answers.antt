use Rattle.std.proofs.Common.{sym, ◌∙◌}
use Rattle.al_rules_order.proofs.Finding.{no_inner_limit, too_many}
use Rattle.al_rules_order.proofs.limits.limit_of_two.Goals as goal

pub returns-in_default-limit_parts : goal.returns-in_default-limit_parts
returns-in_default-limit_parts c = let l = c.in-Some.outer in no_inner_limit c.args.p.now l.input.now l.n l.k c.in-Some.ensures c.in_default-limit_parts.ensures

pub returns-else-may_join : goal.returns-else-may_join
returns-else-may_join c =
    let l = c.in-Some.outer in
    let r = c.in-Some-limit_parts.inner in
    too_many c.args.p.now l.input.now r.input.now l.n l.k r.n r.k c.in-Some.ensures c.in-Some-limit_parts.ensures (sym c.may_join.ensures ∙ c.if-may_join.false)
