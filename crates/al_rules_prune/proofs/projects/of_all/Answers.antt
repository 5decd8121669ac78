use Rattle.std.proofs.Common.{rules}
use Rattle.al_rules_prune.proofs.MatchLaws.{none_all, others_all}
use Rattle.al_rules_prune.proofs.projects.of_all.Goals as goal

pub returns-in_default : goal.returns-in_default
returns-in_default c = none_all c.args.p.now (search rules)

pub returns-else-has_same : goal.returns-else-has_same
returns-else-has_same c = others_all c.args.p.now c.in-Some.vars.now c.in-Some.input.now (search rules) (search rules)
