use Rattle.hy_mail.proofs.Cases.{close_shows_no_row, frame_is_rows_between, frame_shows_its_values, frame_shows_no_other_order, frame_shows_no_others, kinds_are_the_same, no_signal_is_missing}
use Rattle.hy_mail.proofs.laws.row_cases.Goals as goal

pub returns-clause-frame_shows_its_values : goal.returns-clause-frame_shows_its_values
returns-clause-frame_shows_its_values c = frame_shows_its_values

pub returns-clause-frame_shows_no_others : goal.returns-clause-frame_shows_no_others
returns-clause-frame_shows_no_others c = frame_shows_no_others

pub returns-clause-frame_shows_no_other_order : goal.returns-clause-frame_shows_no_other_order
returns-clause-frame_shows_no_other_order c = frame_shows_no_other_order

pub returns-clause-close_shows_no_row : goal.returns-clause-close_shows_no_row
returns-clause-close_shows_no_row c = close_shows_no_row

pub returns-clause-frame_is_rows_between : goal.returns-clause-frame_is_rows_between
returns-clause-frame_is_rows_between c = frame_is_rows_between

pub returns-clause-kinds_are_the_same : goal.returns-clause-kinds_are_the_same
returns-clause-kinds_are_the_same c = kinds_are_the_same

pub returns-clause-no_signal_is_missing : goal.returns-clause-no_signal_is_missing
returns-clause-no_signal_is_missing c = no_signal_is_missing
