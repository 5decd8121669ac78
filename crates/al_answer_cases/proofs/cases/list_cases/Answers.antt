use Rattle.al_answer_cases.proofs.Listing.{group_answers, unhashed_answers, join_answers, count_answers}
use Rattle.al_answer_cases.proofs.cases.list_cases.Goals as goal

pub returns-clause-group : goal.returns-clause-group
returns-clause-group c = group_answers

pub returns-clause-unhashed : goal.returns-clause-unhashed
returns-clause-unhashed c = unhashed_answers

pub returns-clause-join : goal.returns-clause-join
returns-clause-join c = join_answers

pub returns-clause-count : goal.returns-clause-count
returns-clause-count c = count_answers
