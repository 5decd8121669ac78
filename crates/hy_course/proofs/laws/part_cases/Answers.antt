use Rattle.hy_course.proofs.PartCaseLaws.{fed_row_is_packed, lost_packed_is_none, packed_rows_go_on, select_is_made, select_parts_begin, select_parts_end, select_parts_live, wrong_way_is_none}
use Rattle.hy_course.proofs.laws.part_cases.Goals as goal

pub returns-clause-begin : goal.returns-clause-begin
returns-clause-begin c = select_parts_begin

pub returns-clause-end : goal.returns-clause-end
returns-clause-end c = select_parts_end

pub returns-clause-live : goal.returns-clause-live
returns-clause-live c = select_parts_live

pub returns-clause-made : goal.returns-clause-made
returns-clause-made c = select_is_made

pub returns-clause-packed : goal.returns-clause-packed
returns-clause-packed c = fed_row_is_packed

pub returns-clause-lost : goal.returns-clause-lost
returns-clause-lost c = lost_packed_is_none

pub returns-clause-goes_on : goal.returns-clause-goes_on
returns-clause-goes_on c = packed_rows_go_on

pub returns-clause-wrong_way : goal.returns-clause-wrong_way
returns-clause-wrong_way c = wrong_way_is_none
