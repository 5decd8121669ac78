use Rattle.al_answer_cases.proofs.Grouping.{group_settles, wrong_home_settles}
use Rattle.al_answer_cases.proofs.Counting.{count_settles, twice_taken_settles, half_taken_settles}
use Rattle.al_answer_cases.proofs.Joining.{join_settles, no_match_settles, no_pair_settles}
use Rattle.al_answer_cases.proofs.cases.record_cases.Goals as goal

pub returns-clause-group : goal.returns-clause-group
returns-clause-group c = group_settles

pub returns-clause-wrong_home : goal.returns-clause-wrong_home
returns-clause-wrong_home c = wrong_home_settles

pub returns-clause-count : goal.returns-clause-count
returns-clause-count c = count_settles

pub returns-clause-twice_taken : goal.returns-clause-twice_taken
returns-clause-twice_taken c = twice_taken_settles

pub returns-clause-half_taken : goal.returns-clause-half_taken
returns-clause-half_taken c = half_taken_settles

pub returns-clause-join : goal.returns-clause-join
returns-clause-join c = join_settles

pub returns-clause-no_match : goal.returns-clause-no_match
returns-clause-no_match c = no_match_settles

pub returns-clause-no_pair : goal.returns-clause-no_pair
returns-clause-no_pair c = no_pair_settles
