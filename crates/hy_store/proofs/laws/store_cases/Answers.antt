use Rattle.hy_store.proofs.Cases.{numbers_stay, made_last, not_made_with_frames, not_made_again, grown_at_its_end, not_grown_in_front, others_dont_grow, others_keep_theirs, counts_are_known, tells_on, one_is_removed, not_all_removed, none_is_removed, place_is_found, not_the_place_before, not_another_run, one_shape, taken_with_its_runs, runs_are_not_dropped, frames_are_not_dropped, made_adds_up, counts_stop, row_as_fields, null_is_no_text}
use Rattle.hy_store.proofs.laws.store_cases.Goals as goal

pub returns-clause-numbers_stay : goal.returns-clause-numbers_stay
returns-clause-numbers_stay c = numbers_stay

pub returns-clause-made_last : goal.returns-clause-made_last
returns-clause-made_last c = made_last

pub returns-clause-not_made_with_frames : goal.returns-clause-not_made_with_frames
returns-clause-not_made_with_frames c = not_made_with_frames

pub returns-clause-not_made_again : goal.returns-clause-not_made_again
returns-clause-not_made_again c = not_made_again

pub returns-clause-grown_at_its_end : goal.returns-clause-grown_at_its_end
returns-clause-grown_at_its_end c = grown_at_its_end

pub returns-clause-not_grown_in_front : goal.returns-clause-not_grown_in_front
returns-clause-not_grown_in_front c = not_grown_in_front

pub returns-clause-others_dont_grow : goal.returns-clause-others_dont_grow
returns-clause-others_dont_grow c = others_dont_grow

pub returns-clause-others_keep_theirs : goal.returns-clause-others_keep_theirs
returns-clause-others_keep_theirs c = others_keep_theirs

pub returns-clause-counts_are_known : goal.returns-clause-counts_are_known
returns-clause-counts_are_known c = counts_are_known

pub returns-clause-tells_on : goal.returns-clause-tells_on
returns-clause-tells_on c = tells_on

pub returns-clause-one_is_removed : goal.returns-clause-one_is_removed
returns-clause-one_is_removed c = one_is_removed

pub returns-clause-not_all_removed : goal.returns-clause-not_all_removed
returns-clause-not_all_removed c = not_all_removed

pub returns-clause-none_is_removed : goal.returns-clause-none_is_removed
returns-clause-none_is_removed c = none_is_removed

pub returns-clause-place_is_found : goal.returns-clause-place_is_found
returns-clause-place_is_found c = place_is_found

pub returns-clause-not_the_place_before : goal.returns-clause-not_the_place_before
returns-clause-not_the_place_before c = not_the_place_before

pub returns-clause-not_another_run : goal.returns-clause-not_another_run
returns-clause-not_another_run c = not_another_run

pub returns-clause-one_shape : goal.returns-clause-one_shape
returns-clause-one_shape c = one_shape

pub returns-clause-taken_with_its_runs : goal.returns-clause-taken_with_its_runs
returns-clause-taken_with_its_runs c = taken_with_its_runs

pub returns-clause-runs_are_not_dropped : goal.returns-clause-runs_are_not_dropped
returns-clause-runs_are_not_dropped c = runs_are_not_dropped

pub returns-clause-frames_are_not_dropped : goal.returns-clause-frames_are_not_dropped
returns-clause-frames_are_not_dropped c = frames_are_not_dropped

pub returns-clause-made_adds_up : goal.returns-clause-made_adds_up
returns-clause-made_adds_up c = made_adds_up

pub returns-clause-counts_stop : goal.returns-clause-counts_stop
returns-clause-counts_stop c = counts_stop

pub returns-clause-row_as_fields : goal.returns-clause-row_as_fields
returns-clause-row_as_fields c = row_as_fields

pub returns-clause-null_is_no_text : goal.returns-clause-null_is_no_text
returns-clause-null_is_no_text c = null_is_no_text
