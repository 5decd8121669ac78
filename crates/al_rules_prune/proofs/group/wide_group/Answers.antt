use Rattle.std.proofs.Common.{rules}
use Rattle.al_rules_prune.proofs.MatchLaws.{distinct_group}
use Rattle.al_rules_prune.proofs.group.wide_group.Goals as goal

pub returns-then-has_distinct : goal.returns-then-has_distinct
returns-then-has_distinct c = distinct_group c.args.p.now c.in-Group.keys c.in-Group.nested c.in-Group.input (search rules) (search rules)
