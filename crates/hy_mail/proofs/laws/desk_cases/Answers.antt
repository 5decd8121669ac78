use Rattle.hy_mail.proofs.Cases.{empty_is_counted, frames_have_the_arity, front_is_taken, full_is_counted, full_takes_no_more, last_is_not_taken, not_raised_at_first, one_receives, open_once, others_dont_send, put_goes_in, put_is_its_senders, put_is_not_dropped, raise_is_not_unseen, raise_is_seen, refusals_count, room_is_not_full, senders_have_numbers, some_is_not_empty, words_are_apart}
use Rattle.hy_mail.proofs.laws.desk_cases.Goals as goal

pub returns-clause-senders_have_numbers : goal.returns-clause-senders_have_numbers
returns-clause-senders_have_numbers c = senders_have_numbers

pub returns-clause-others_dont_send : goal.returns-clause-others_dont_send
returns-clause-others_dont_send c = others_dont_send

pub returns-clause-one_receives : goal.returns-clause-one_receives
returns-clause-one_receives c = one_receives

pub returns-clause-put_goes_in : goal.returns-clause-put_goes_in
returns-clause-put_goes_in c = put_goes_in

pub returns-clause-put_is_its_senders : goal.returns-clause-put_is_its_senders
returns-clause-put_is_its_senders c = put_is_its_senders

pub returns-clause-put_is_not_dropped : goal.returns-clause-put_is_not_dropped
returns-clause-put_is_not_dropped c = put_is_not_dropped

pub returns-clause-words_are_apart : goal.returns-clause-words_are_apart
returns-clause-words_are_apart c = words_are_apart

pub returns-clause-open_once : goal.returns-clause-open_once
returns-clause-open_once c = open_once

pub returns-clause-frames_have_the_arity : goal.returns-clause-frames_have_the_arity
returns-clause-frames_have_the_arity c = frames_have_the_arity

pub returns-clause-full_is_counted : goal.returns-clause-full_is_counted
returns-clause-full_is_counted c = full_is_counted

pub returns-clause-full_takes_no_more : goal.returns-clause-full_takes_no_more
returns-clause-full_takes_no_more c = full_takes_no_more

pub returns-clause-room_is_not_full : goal.returns-clause-room_is_not_full
returns-clause-room_is_not_full c = room_is_not_full

pub returns-clause-front_is_taken : goal.returns-clause-front_is_taken
returns-clause-front_is_taken c = front_is_taken

pub returns-clause-last_is_not_taken : goal.returns-clause-last_is_not_taken
returns-clause-last_is_not_taken c = last_is_not_taken

pub returns-clause-empty_is_counted : goal.returns-clause-empty_is_counted
returns-clause-empty_is_counted c = empty_is_counted

pub returns-clause-some_is_not_empty : goal.returns-clause-some_is_not_empty
returns-clause-some_is_not_empty c = some_is_not_empty

pub returns-clause-not_raised_at_first : goal.returns-clause-not_raised_at_first
returns-clause-not_raised_at_first c = not_raised_at_first

pub returns-clause-raise_is_seen : goal.returns-clause-raise_is_seen
returns-clause-raise_is_seen c = raise_is_seen

pub returns-clause-raise_is_not_unseen : goal.returns-clause-raise_is_not_unseen
returns-clause-raise_is_not_unseen c = raise_is_not_unseen

pub returns-clause-refusals_count : goal.returns-clause-refusals_count
returns-clause-refusals_count c = refusals_count
