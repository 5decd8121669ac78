use Rattle.std.proofs.Common.{sym, ◌∙◌}
use Rattle.al_rules_group.proofs.Finding.{group_with_distinct}
use Rattle.al_rules_group.proofs.projects.plain_grouping.Goals as goal

pub returns-then-has_distinct : goal.returns-then-has_distinct
returns-then-has_distinct c = let g = c.in-Some.group in group_with_distinct c.args.p.now g.nested.now g.input.now c.in-Some.ensures (sym c.has_distinct.ensures ∙ c.if-has_distinct.true)
