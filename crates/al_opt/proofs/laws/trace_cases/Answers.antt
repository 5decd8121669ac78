use Rattle.al_opt.proofs.TraceCases.{one_rule, two_rules, either}
use Rattle.al_opt.proofs.laws.trace_cases.Goals as goal

pub returns-clause-one_rule : goal.returns-clause-one_rule
returns-clause-one_rule c = one_rule

pub returns-clause-two_rules : goal.returns-clause-two_rules
returns-clause-two_rules c = two_rules

pub returns-clause-either : goal.returns-clause-either
returns-clause-either c = either
