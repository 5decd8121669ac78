use Rattle.al_query_cases.proofs.Due.{absent_plan, no_words, run_unserved, cuts_before, may_end_so}
use Rattle.al_query_cases.proofs.cases.due_cases.Goals as goal

pub returns-clause-absent : goal.returns-clause-absent
returns-clause-absent c = absent_plan c.one_command.ensures

pub returns-clause-no_words : goal.returns-clause-no_words
returns-clause-no_words c = no_words

pub returns-clause-run : goal.returns-clause-run
returns-clause-run c = run_unserved c.one_command.ensures

pub returns-clause-cut : goal.returns-clause-cut
returns-clause-cut c = cuts_before

pub returns-clause-may_end : goal.returns-clause-may_end
returns-clause-may_end c = may_end_so
