use Rattle.al_answer.proofs.AnswerCases.{mixed_is_answer, turned_is_none, short_is_none, wide_is_none}
use Rattle.al_answer.proofs.laws.answer_cases.Goals as goal

pub returns-clause-mixed : goal.returns-clause-mixed
returns-clause-mixed c = mixed_is_answer

pub returns-clause-turned : goal.returns-clause-turned
returns-clause-turned c = turned_is_none

pub returns-clause-short : goal.returns-clause-short
returns-clause-short c = short_is_none

pub returns-clause-wide : goal.returns-clause-wide
returns-clause-wide c = wide_is_none
