use Rattle.hy_progress.proofs.CaseLaws.{full_mailbox_waits, room_is_used, empty_mailbox_waits, signal_is_taken, no_sender_no_wait, beginning_is_view, lost_close_is_none, merge_asks_in_turn, others_are_asked, later_may_rise, rise_alone_is_none}
use Rattle.hy_progress.proofs.laws.progress_cases.Goals as goal

pub returns-clause-full : goal.returns-clause-full
returns-clause-full c = full_mailbox_waits

pub returns-clause-room : goal.returns-clause-room
returns-clause-room c = room_is_used

pub returns-clause-empty : goal.returns-clause-empty
returns-clause-empty c = empty_mailbox_waits

pub returns-clause-taken : goal.returns-clause-taken
returns-clause-taken c = signal_is_taken

pub returns-clause-no_sender : goal.returns-clause-no_sender
returns-clause-no_sender c = no_sender_no_wait

pub returns-clause-beginning : goal.returns-clause-beginning
returns-clause-beginning c = beginning_is_view

pub returns-clause-lost : goal.returns-clause-lost
returns-clause-lost c = lost_close_is_none

pub returns-clause-merge : goal.returns-clause-merge
returns-clause-merge c = merge_asks_in_turn

pub returns-clause-others : goal.returns-clause-others
returns-clause-others c = others_are_asked

pub returns-clause-later : goal.returns-clause-later
returns-clause-later c = later_may_rise

pub returns-clause-rise : goal.returns-clause-rise
returns-clause-rise c = rise_alone_is_none
