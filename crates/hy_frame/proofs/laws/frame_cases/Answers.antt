use Rattle.hy_frame.proofs.FrameCases.{two_rows, gap_is_zeros, ends_go_down, alone_in_two_units, not_in_three_units, no_two_in_two_units}
use Rattle.hy_frame.proofs.laws.frame_cases.Goals as goal

pub returns-clause-two_rows : goal.returns-clause-two_rows
returns-clause-two_rows c = two_rows

pub returns-clause-gap_is_zeros : goal.returns-clause-gap_is_zeros
returns-clause-gap_is_zeros c = gap_is_zeros

pub returns-clause-ends_go_down : goal.returns-clause-ends_go_down
returns-clause-ends_go_down c = ends_go_down

pub returns-clause-alone_in_two_units : goal.returns-clause-alone_in_two_units
returns-clause-alone_in_two_units c = alone_in_two_units

pub returns-clause-not_in_three_units : goal.returns-clause-not_in_three_units
returns-clause-not_in_three_units c = not_in_three_units

pub returns-clause-no_two_in_two_units : goal.returns-clause-no_two_in_two_units
returns-clause-no_two_in_two_units c = no_two_in_two_units
