use Rattle.hy_input.proofs.CaseLaws.{close_counts_once, close_is_its_senders, done_where_none_is_left, first_bare_is_asked, frames_are_held, frames_come_whole, giving_up_keeps_none, hand_is_brought, lesser_is_brought, mailboxes_have_width, open_senders_send, rows_are_held, rows_are_kept, rows_come_one_by_one, rows_have_width, senders_have_partitions, senders_stay, wanted_where_none_is_left}
use Rattle.hy_input.proofs.laws.input_cases.Goals as goal

pub returns-clause-hand : goal.returns-clause-hand
returns-clause-hand c = hand_is_brought

pub returns-clause-lesser : goal.returns-clause-lesser
returns-clause-lesser c = lesser_is_brought

pub returns-clause-partitions : goal.returns-clause-partitions
returns-clause-partitions c = close_is_its_senders

pub returns-clause-wanted : goal.returns-clause-wanted
returns-clause-wanted c = wanted_where_none_is_left

pub returns-clause-done : goal.returns-clause-done
returns-clause-done c = done_where_none_is_left

pub returns-clause-senders : goal.returns-clause-senders
returns-clause-senders c = senders_have_partitions

pub returns-clause-held : goal.returns-clause-held
returns-clause-held c = frames_are_held

pub returns-clause-frames : goal.returns-clause-frames
returns-clause-frames c = frames_come_whole

pub returns-clause-closes : goal.returns-clause-closes
returns-clause-closes c = close_counts_once

pub returns-clause-steps : goal.returns-clause-steps
returns-clause-steps c = rows_come_one_by_one

pub returns-clause-gives_up : goal.returns-clause-gives_up
returns-clause-gives_up c = giving_up_keeps_none

pub returns-clause-may : goal.returns-clause-may
returns-clause-may c = open_senders_send

pub returns-clause-width : goal.returns-clause-width
returns-clause-width c = rows_have_width

pub returns-clause-asked : goal.returns-clause-asked
returns-clause-asked c = first_bare_is_asked

pub returns-clause-rows : goal.returns-clause-rows
returns-clause-rows c = rows_are_held

pub returns-clause-kept : goal.returns-clause-kept
returns-clause-kept c = rows_are_kept

pub returns-clause-still : goal.returns-clause-still
returns-clause-still c = senders_stay

pub returns-clause-boxes : goal.returns-clause-boxes
returns-clause-boxes c = mailboxes_have_width
