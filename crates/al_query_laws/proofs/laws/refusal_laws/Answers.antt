use Rattle.al_query_laws.proofs.Answered.{files_are_answered, unplanned_is_refused}
use Rattle.al_query_laws.proofs.laws.refusal_laws.Goals as goal

pub returns-clause-answered : goal.returns-clause-answered
returns-clause-answered c = files_are_answered c.every_text.ensures.answer c.acceptance_laws.ensures.exact

pub returns-clause-unplanned : goal.returns-clause-unplanned
returns-clause-unplanned c = unplanned_is_refused (files_are_answered c.every_text.ensures.answer c.acceptance_laws.ensures.exact)
