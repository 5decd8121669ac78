use Rattle.std.proofs.Common.{rules, ◌≡◌, ◌++◌, map, false}
use Rattle.al_rules_prune.specs.Prunes.{wide}
use Rattle.al_rules_prune.proofs.MatchLaws.{none_order, other_order, narrow_order}
use Rattle.al_rules_prune.proofs.cuts.wide_order.Goals as goal

pub returns-in_default : goal.returns-in_default
returns-in_default c = none_order c.args.p.now (search rules)

pub returns-else-is_wide : goal.returns-else-is_wide
returns-else-is_wide c =
    let thin : wide (c.in-Some.vars.now ++ map (λ k. k.var) c.in-Order.keys) c.get.result.now ≡ false = search rules in
    narrow_order c.args.p.now c.in-Some.vars.now c.in-Some.over.now c.in-Order.keys c.get.result.now (search rules) (search rules) thin

pub returns-in_default-over : goal.returns-in_default-over
returns-in_default-over c = other_order c.args.p.now c.in-Some.vars.now c.in-Some.over.now (search rules) (search rules)
