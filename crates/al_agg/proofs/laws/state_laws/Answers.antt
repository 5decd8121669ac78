use Rattle.al_agg.proofs.ListLaws.{states_of_lists, sum_of_two, sum_below_zero, sum_of_none, count_halves}
use Rattle.al_agg.proofs.laws.state_laws.Goals as goal

pub returns-clause-lists : goal.returns-clause-lists
returns-clause-lists c = states_of_lists

pub returns-clause-sum_of_two : goal.returns-clause-sum_of_two
returns-clause-sum_of_two c = sum_of_two

pub returns-clause-sum_below_zero : goal.returns-clause-sum_below_zero
returns-clause-sum_below_zero c = sum_below_zero

pub returns-clause-sum_of_none : goal.returns-clause-sum_of_none
returns-clause-sum_of_none c = sum_of_none

pub returns-clause-count : goal.returns-clause-count
returns-clause-count c = count_halves
