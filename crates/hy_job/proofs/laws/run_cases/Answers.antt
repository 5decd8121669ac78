use Rattle.hy_job.proofs.RunCases.{limit_skips, union_has_both, scan_is_dealt, stretches_have_rows, none_of_none, words_end, words_may, first_gathers, raised_in_stage, hash_boxes, merge_boxes, third_task}
use Rattle.hy_job.proofs.PartCases.{check_passes, part_is_front, row_ends_part, rows_come_fitting}
use Rattle.hy_job.proofs.WayCases.{received, limit_goes_on, emits_what_is_left, last_row, failed_so_far, live_so_far}
use Rattle.hy_job.proofs.ValueCases.{values_come}
use Rattle.hy_job.proofs.laws.run_cases.Goals as goal

pub returns-clause-limit_skips : goal.returns-clause-limit_skips
returns-clause-limit_skips c = limit_skips

pub returns-clause-union_has_both : goal.returns-clause-union_has_both
returns-clause-union_has_both c = union_has_both

pub returns-clause-scan_is_dealt : goal.returns-clause-scan_is_dealt
returns-clause-scan_is_dealt c = scan_is_dealt

pub returns-clause-stretches_have_rows : goal.returns-clause-stretches_have_rows
returns-clause-stretches_have_rows c = stretches_have_rows

pub returns-clause-none_of_none : goal.returns-clause-none_of_none
returns-clause-none_of_none c = none_of_none

pub returns-clause-words_end : goal.returns-clause-words_end
returns-clause-words_end c = words_end

pub returns-clause-words_may : goal.returns-clause-words_may
returns-clause-words_may c = words_may

pub returns-clause-first_gathers : goal.returns-clause-first_gathers
returns-clause-first_gathers c = first_gathers

pub returns-clause-raised_in_stage : goal.returns-clause-raised_in_stage
returns-clause-raised_in_stage c = raised_in_stage

pub returns-clause-hash_boxes : goal.returns-clause-hash_boxes
returns-clause-hash_boxes c = hash_boxes

pub returns-clause-merge_boxes : goal.returns-clause-merge_boxes
returns-clause-merge_boxes c = merge_boxes

pub returns-clause-third_task : goal.returns-clause-third_task
returns-clause-third_task c = third_task

pub returns-clause-check_passes : goal.returns-clause-check_passes
returns-clause-check_passes c = check_passes

pub returns-clause-part_is_front : goal.returns-clause-part_is_front
returns-clause-part_is_front c = part_is_front

pub returns-clause-row_ends_part : goal.returns-clause-row_ends_part
returns-clause-row_ends_part c = row_ends_part

pub returns-clause-received : goal.returns-clause-received
returns-clause-received c = received

pub returns-clause-limit_goes_on : goal.returns-clause-limit_goes_on
returns-clause-limit_goes_on c = limit_goes_on

pub returns-clause-emits_what_is_left : goal.returns-clause-emits_what_is_left
returns-clause-emits_what_is_left c = emits_what_is_left

pub returns-clause-last_row : goal.returns-clause-last_row
returns-clause-last_row c = last_row

pub returns-clause-failed_so_far : goal.returns-clause-failed_so_far
returns-clause-failed_so_far c = failed_so_far

pub returns-clause-live_so_far : goal.returns-clause-live_so_far
returns-clause-live_so_far c = live_so_far

pub returns-clause-rows_come_fitting : goal.returns-clause-rows_come_fitting
returns-clause-rows_come_fitting c = rows_come_fitting

pub returns-clause-values_come : goal.returns-clause-values_come
returns-clause-values_come c = values_come
