use Rattle.hy_job.proofs.StateCases.{both_seen, null_passed, in_order, each_has}
use Rattle.hy_job.proofs.states.state_cases.Goals as goal

pub returns-clause-seen : goal.returns-clause-seen
returns-clause-seen c = both_seen

pub returns-clause-null : goal.returns-clause-null
returns-clause-null c = null_passed

pub returns-clause-in_order : goal.returns-clause-in_order
returns-clause-in_order c = in_order

pub returns-clause-each : goal.returns-clause-each
returns-clause-each c = each_has
