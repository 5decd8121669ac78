use Rattle.hy_frame.proofs.ParseLaws.{one_frame, one_rows}
use Rattle.hy_frame.proofs.laws.frame_laws.Goals as goal

pub returns-clause-one : goal.returns-clause-one
returns-clause-one c = one_frame

pub returns-clause-rows : goal.returns-clause-rows
returns-clause-rows c = one_rows
