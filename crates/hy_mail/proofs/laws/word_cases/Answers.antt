use Rattle.hy_mail.proofs.Cases.{fail_is_no_end, fail_may_come, frames_may_come, no_frame_behind_fail, nothing_behind_close, open_comes_first, open_comes_once, open_is_a_beginning, open_is_no_end}
use Rattle.hy_mail.proofs.laws.word_cases.Goals as goal

pub returns-clause-frames_may_come : goal.returns-clause-frames_may_come
returns-clause-frames_may_come c = frames_may_come

pub returns-clause-fail_may_come : goal.returns-clause-fail_may_come
returns-clause-fail_may_come c = fail_may_come

pub returns-clause-open_is_a_beginning : goal.returns-clause-open_is_a_beginning
returns-clause-open_is_a_beginning c = open_is_a_beginning

pub returns-clause-open_is_no_end : goal.returns-clause-open_is_no_end
returns-clause-open_is_no_end c = open_is_no_end

pub returns-clause-fail_is_no_end : goal.returns-clause-fail_is_no_end
returns-clause-fail_is_no_end c = fail_is_no_end

pub returns-clause-open_comes_first : goal.returns-clause-open_comes_first
returns-clause-open_comes_first c = open_comes_first

pub returns-clause-open_comes_once : goal.returns-clause-open_comes_once
returns-clause-open_comes_once c = open_comes_once

pub returns-clause-no_frame_behind_fail : goal.returns-clause-no_frame_behind_fail
returns-clause-no_frame_behind_fail c = no_frame_behind_fail

pub returns-clause-nothing_behind_close : goal.returns-clause-nothing_behind_close
returns-clause-nothing_behind_close c = nothing_behind_close
