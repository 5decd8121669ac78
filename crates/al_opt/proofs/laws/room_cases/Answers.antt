use Rattle.al_opt.proofs.RoomLaws.{select_has_four, nested_has_none, four_fill_four, four_in_three, none_in_four}
use Rattle.al_opt.proofs.laws.room_cases.Goals as goal

pub returns-clause-select : goal.returns-clause-select
returns-clause-select c = select_has_four

pub returns-clause-nested : goal.returns-clause-nested
returns-clause-nested c = nested_has_none

pub returns-clause-four : goal.returns-clause-four
returns-clause-four c = four_fill_four

pub returns-clause-three : goal.returns-clause-three
returns-clause-three c = four_in_three

pub returns-clause-none : goal.returns-clause-none
returns-clause-none c = none_in_four
