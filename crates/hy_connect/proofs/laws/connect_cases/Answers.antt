use Rattle.hy_connect.proofs.CaseProofs.{both_have_to_close, counts_end, each_has_a_box, empty_is_not_sent, exports_what_waits, filled_is_owed, frames_are_counted, hash_splits, nothing_behind_fail, tasks_follow, two_share_a_box, waiting_comes_first, words_are_behind}
use Rattle.hy_connect.proofs.laws.connect_cases.Goals as goal

pub returns-clause-waiting_comes_first : goal.returns-clause-waiting_comes_first
returns-clause-waiting_comes_first c = waiting_comes_first

pub returns-clause-nothing_behind_fail : goal.returns-clause-nothing_behind_fail
returns-clause-nothing_behind_fail c = nothing_behind_fail

pub returns-clause-filled_is_owed : goal.returns-clause-filled_is_owed
returns-clause-filled_is_owed c = filled_is_owed

pub returns-clause-words_are_behind : goal.returns-clause-words_are_behind
returns-clause-words_are_behind c = words_are_behind

pub returns-clause-empty_is_not_sent : goal.returns-clause-empty_is_not_sent
returns-clause-empty_is_not_sent c = empty_is_not_sent

pub returns-clause-frames_are_counted : goal.returns-clause-frames_are_counted
returns-clause-frames_are_counted c = frames_are_counted

pub returns-clause-exports_what_waits : goal.returns-clause-exports_what_waits
returns-clause-exports_what_waits c = exports_what_waits

pub returns-clause-counts_end : goal.returns-clause-counts_end
returns-clause-counts_end c = counts_end

pub returns-clause-both_have_to_close : goal.returns-clause-both_have_to_close
returns-clause-both_have_to_close c = both_have_to_close

pub returns-clause-hash_splits : goal.returns-clause-hash_splits
returns-clause-hash_splits c = hash_splits

pub returns-clause-two_share_a_box : goal.returns-clause-two_share_a_box
returns-clause-two_share_a_box c = two_share_a_box

pub returns-clause-each_has_a_box : goal.returns-clause-each_has_a_box
returns-clause-each_has_a_box c = each_has_a_box

pub returns-clause-tasks_follow : goal.returns-clause-tasks_follow
returns-clause-tasks_follow c = tasks_follow
