use Rattle.hy_pipeline.proofs.CaseLaws.{checks_test, failed_owes, hands_are_left, hands_of_both, frames_are_rows, kept_first, left_last, new_ways, put_for_one, rows_owed, second_offered, swapped_apart, waits_for_second}
use Rattle.hy_pipeline.proofs.laws.pipeline_cases.Goals as goal

pub returns-clause-frames : goal.returns-clause-frames
returns-clause-frames c = frames_are_rows

pub returns-clause-put_for : goal.returns-clause-put_for
returns-clause-put_for c = put_for_one

pub returns-clause-apart : goal.returns-clause-apart
returns-clause-apart c = swapped_apart

pub returns-clause-waits : goal.returns-clause-waits
returns-clause-waits c = waits_for_second

pub returns-clause-offered : goal.returns-clause-offered
returns-clause-offered c = second_offered

pub returns-clause-kept : goal.returns-clause-kept
returns-clause-kept c = kept_first

pub returns-clause-new : goal.returns-clause-new
returns-clause-new c = new_ways

pub returns-clause-left : goal.returns-clause-left
returns-clause-left c = left_last

pub returns-clause-owed : goal.returns-clause-owed
returns-clause-owed c = rows_owed

pub returns-clause-failed : goal.returns-clause-failed
returns-clause-failed c = failed_owes

pub returns-clause-hands : goal.returns-clause-hands
returns-clause-hands c = hands_are_left

pub returns-clause-both : goal.returns-clause-both
returns-clause-both c = hands_of_both

pub returns-clause-tests : goal.returns-clause-tests
returns-clause-tests c = checks_test
