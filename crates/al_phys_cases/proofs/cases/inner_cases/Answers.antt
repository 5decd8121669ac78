use Rattle.al_phys_cases.proofs.Inner.{nested_is_free, order_inside, distinct_inside, two_pairs, rest_decides, rest_allows}
use Rattle.al_phys_cases.proofs.cases.inner_cases.Goals as goal

pub returns-clause-nested : goal.returns-clause-nested
returns-clause-nested c = nested_is_free

pub returns-clause-order : goal.returns-clause-order
returns-clause-order c = order_inside

pub returns-clause-distinct : goal.returns-clause-distinct
returns-clause-distinct c = distinct_inside

pub returns-clause-two_pairs : goal.returns-clause-two_pairs
returns-clause-two_pairs c = two_pairs

pub returns-clause-rest_decides : goal.returns-clause-rest_decides
returns-clause-rest_decides c = rest_decides

pub returns-clause-rest_allows : goal.returns-clause-rest_allows
returns-clause-rest_allows c = rest_allows
