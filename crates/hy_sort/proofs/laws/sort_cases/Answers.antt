use Rattle.hy_sort.proofs.CaseProofs.{ends_behind_the_last, gives_the_next, keys_have_directions, none_is_left_out, ordering_is_work, ties_are_free}
use Rattle.hy_sort.proofs.laws.sort_cases.Goals as goal

pub returns-clause-kept : goal.returns-clause-kept
returns-clause-kept c = none_is_left_out

pub returns-clause-directions : goal.returns-clause-directions
returns-clause-directions c = keys_have_directions

pub returns-clause-ties : goal.returns-clause-ties
returns-clause-ties c = ties_are_free

pub returns-clause-orders : goal.returns-clause-orders
returns-clause-orders c = ordering_is_work

pub returns-clause-gives : goal.returns-clause-gives
returns-clause-gives c = gives_the_next

pub returns-clause-ends : goal.returns-clause-ends
returns-clause-ends c = ends_behind_the_last
