use Rattle.al_query_cases.proofs.Due.{gen_needs_nothing}
use Rattle.al_query_cases.proofs.cases.gen_cases.Goals as goal

pub returns : goal.returns
returns c = gen_needs_nothing
