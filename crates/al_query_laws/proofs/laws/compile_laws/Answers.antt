use Rattle.al_query_laws.proofs.OneWay.{compiles_one_way, compiled_in_order}
use Rattle.al_query_laws.proofs.laws.compile_laws.Goals as goal

pub returns-clause-one_way : goal.returns-clause-one_way
returns-clause-one_way c = compiles_one_way c.trace_laws.ensures.traces

pub returns-clause-in_order : goal.returns-clause-in_order
returns-clause-in_order c = compiled_in_order c.job_order.ensures
