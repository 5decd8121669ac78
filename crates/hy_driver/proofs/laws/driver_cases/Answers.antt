use Rattle.hy_driver.proofs.CaseProofs.{fields_have_values, rows_that_come, checks_test, checks_fail, gives_what_it_holds, ends_at_the_end, asking_turns, frames_count, runs_are_left, runs_are_made, handed_in_order, exports_count}
use Rattle.hy_driver.proofs.laws.driver_cases.Goals as goal

pub returns-clause-values : goal.returns-clause-values
returns-clause-values c = fields_have_values

pub returns-clause-comes : goal.returns-clause-comes
returns-clause-comes c = rows_that_come

pub returns-clause-tests : goal.returns-clause-tests
returns-clause-tests c = checks_test

pub returns-clause-fails : goal.returns-clause-fails
returns-clause-fails c = checks_fail

pub returns-clause-gives : goal.returns-clause-gives
returns-clause-gives c = gives_what_it_holds

pub returns-clause-ends : goal.returns-clause-ends
returns-clause-ends c = ends_at_the_end

pub returns-clause-asks : goal.returns-clause-asks
returns-clause-asks c = asking_turns

pub returns-clause-frames : goal.returns-clause-frames
returns-clause-frames c = frames_count

pub returns-clause-left : goal.returns-clause-left
returns-clause-left c = runs_are_left

pub returns-clause-made : goal.returns-clause-made
returns-clause-made c = runs_are_made

pub returns-clause-handed : goal.returns-clause-handed
returns-clause-handed c = handed_in_order

pub returns-clause-exports : goal.returns-clause-exports
returns-clause-exports c = exports_count
