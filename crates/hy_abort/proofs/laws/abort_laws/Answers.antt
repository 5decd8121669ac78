use Rattle.hy_abort.proofs.Steps.{begins, joins, looks, never_wraps, raises, splits}
use Rattle.hy_abort.proofs.laws.abort_laws.Goals as goal

pub returns-clause-begins : goal.returns-clause-begins
returns-clause-begins c = begins

pub returns-clause-look : goal.returns-clause-look
returns-clause-look c = looks

pub returns-clause-raise : goal.returns-clause-raise
returns-clause-raise c = raises

pub returns-clause-deal : goal.returns-clause-deal
returns-clause-deal c = splits

pub returns-clause-take_in : goal.returns-clause-take_in
returns-clause-take_in c = joins

pub returns-clause-never_wraps : goal.returns-clause-never_wraps
returns-clause-never_wraps c = never_wraps
