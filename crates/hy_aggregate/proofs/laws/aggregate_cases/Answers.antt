use Rattle.hy_aggregate.proofs.CaseProofs.{each_is_joined, first_alone, gives_before_it_ends, one_row_comes, row_is_seen, states_join}
use Rattle.hy_aggregate.proofs.laws.aggregate_cases.Goals as goal

pub returns-clause-row : goal.returns-clause-row
returns-clause-row c = one_row_comes

pub returns-clause-join : goal.returns-clause-join
returns-clause-join c = states_join

pub returns-clause-first : goal.returns-clause-first
returns-clause-first c = first_alone

pub returns-clause-each : goal.returns-clause-each
returns-clause-each c = each_is_joined

pub returns-clause-gives : goal.returns-clause-gives
returns-clause-gives c = gives_before_it_ends

pub returns-clause-seen : goal.returns-clause-seen
returns-clause-seen c = row_is_seen
