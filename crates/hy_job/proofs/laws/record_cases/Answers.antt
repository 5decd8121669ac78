use Rattle.hy_job.proofs.FailCases.{nobody_sends, none_stops_alone, fail_stops, fail_completes_none}
use Rattle.hy_job.proofs.HashCases.{hash_settles}
use Rattle.hy_job.proofs.SortCases.{sort_settles, sort_is_handed}
use Rattle.hy_job.proofs.laws.record_cases.Goals as goal

pub returns-clause-nobody_sends : goal.returns-clause-nobody_sends
returns-clause-nobody_sends c = nobody_sends

pub returns-clause-none_stops_alone : goal.returns-clause-none_stops_alone
returns-clause-none_stops_alone c = none_stops_alone

pub returns-clause-fail_stops : goal.returns-clause-fail_stops
returns-clause-fail_stops c = fail_stops

pub returns-clause-fail_completes_none : goal.returns-clause-fail_completes_none
returns-clause-fail_completes_none c = fail_completes_none

pub returns-clause-hash_settles : goal.returns-clause-hash_settles
returns-clause-hash_settles c = hash_settles

pub returns-clause-sort_settles : goal.returns-clause-sort_settles
returns-clause-sort_settles c = sort_settles

pub returns-clause-sort_is_handed : goal.returns-clause-sort_is_handed
returns-clause-sort_is_handed c = sort_is_handed
