use Rattle.hy_course.proofs.CaseLaws.{both_are_awaited, close_alone_is_none, close_is_awaited, close_is_counted, done_owes_nothing, fail_stops_it, failure_stays, fault_is_met_in_work, lost_row_is_none, owed_is_put, raises_for_faults, selects_all, selects_whole, sight_stops_it, stray_is_none, stray_row_fails_none, taken_row_waits, tested_row_fails, tested_row_passes, unowed_row_is_none, waiting_row_is_put, wrong_receiver_is_none}
use Rattle.hy_course.proofs.laws.course_cases.Goals as goal

pub returns-clause-taken : goal.returns-clause-taken
returns-clause-taken c = taken_row_waits

pub returns-clause-lost : goal.returns-clause-lost
returns-clause-lost c = lost_row_is_none

pub returns-clause-waiting : goal.returns-clause-waiting
returns-clause-waiting c = waiting_row_is_put

pub returns-clause-unowed : goal.returns-clause-unowed
returns-clause-unowed c = unowed_row_is_none

pub returns-clause-receiver : goal.returns-clause-receiver
returns-clause-receiver c = wrong_receiver_is_none

pub returns-clause-stray : goal.returns-clause-stray
returns-clause-stray c = stray_is_none

pub returns-clause-close : goal.returns-clause-close
returns-clause-close c = close_is_counted

pub returns-clause-fail : goal.returns-clause-fail
returns-clause-fail c = fail_stops_it

pub returns-clause-sight : goal.returns-clause-sight
returns-clause-sight c = sight_stops_it

pub returns-clause-close_alone : goal.returns-clause-close_alone
returns-clause-close_alone c = close_alone_is_none

pub returns-clause-stray_row : goal.returns-clause-stray_row
returns-clause-stray_row c = stray_row_fails_none

pub returns-clause-fault : goal.returns-clause-fault
returns-clause-fault c = fault_is_met_in_work

pub returns-clause-owed : goal.returns-clause-owed
returns-clause-owed c = owed_is_put

pub returns-clause-stays : goal.returns-clause-stays
returns-clause-stays c = failure_stays

pub returns-clause-passes : goal.returns-clause-passes
returns-clause-passes c = tested_row_passes

pub returns-clause-fails : goal.returns-clause-fails
returns-clause-fails c = tested_row_fails

pub returns-clause-done : goal.returns-clause-done
returns-clause-done c = done_owes_nothing

pub returns-clause-awaited : goal.returns-clause-awaited
returns-clause-awaited c = close_is_awaited

pub returns-clause-both_awaited : goal.returns-clause-both_awaited
returns-clause-both_awaited c = both_are_awaited

pub returns-clause-raises : goal.returns-clause-raises
returns-clause-raises c = raises_for_faults

pub returns-clause-whole : goal.returns-clause-whole
returns-clause-whole c = selects_whole

pub returns-clause-all : goal.returns-clause-all
returns-clause-all c = selects_all
