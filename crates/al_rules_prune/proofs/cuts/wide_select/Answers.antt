use Rattle.std.proofs.Common.{rules, ◌≡◌, ◌++◌, false}
use Rattle.al_rules_prune.specs.Prunes.{wide, read_by}
use Rattle.al_rules_prune.proofs.MatchLaws.{other_select, narrow_select}
use Rattle.al_rules_prune.proofs.cuts.wide_select.Goals as goal

pub returns-else-is_wide : goal.returns-else-is_wide
returns-else-is_wide c =
    let thin : wide (c.in-Some.vars.now ++ read_by c.in-Select.cond) c.get.result.now ≡ false = search rules in
    narrow_select c.args.p.now c.in-Some.vars.now c.in-Some.over.now c.in-Select.cond c.get.result.now (search rules) (search rules) thin

pub returns-in_default-over : goal.returns-in_default-over
returns-in_default-over c = other_select c.args.p.now c.in-Some.vars.now c.in-Some.over.now (search rules) (search rules)
