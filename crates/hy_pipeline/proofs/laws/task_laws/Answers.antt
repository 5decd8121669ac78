use Rattle.hy_pipeline.proofs.DoneLaws.{end_is_done}
use Rattle.hy_pipeline.proofs.TaskLaws.{fail_moves, failed_take_moves, fault_moves, look_moves, put_moves, raise_moves, sight_moves, take_moves, work_moves}
use Rattle.hy_pipeline.proofs.laws.task_laws.Goals as goal

pub returns-clause-works : goal.returns-clause-works
returns-clause-works g c old new = work_moves (g.T.HasTask.task old) (g.T.HasTask.task new)

pub returns-clause-faults : goal.returns-clause-faults
returns-clause-faults g c old new last = fault_moves (g.T.HasTask.task old) (g.M.HasParts.parts last) (g.T.HasTask.task new)

pub returns-clause-takes : goal.returns-clause-takes
returns-clause-takes g c old new = take_moves (g.T.HasTask.task old) (g.T.HasTask.task new)

pub returns-clause-takes_failed : goal.returns-clause-takes_failed
returns-clause-takes_failed g c old new = failed_take_moves (g.T.HasTask.task old) (g.T.HasTask.task new)

pub returns-clause-stops_by_fail : goal.returns-clause-stops_by_fail
returns-clause-stops_by_fail g c old new last = fail_moves (g.T.HasTask.task old) (g.M.HasParts.parts last) (g.T.HasTask.task new)

pub returns-clause-stops_by_sight : goal.returns-clause-stops_by_sight
returns-clause-stops_by_sight g c old new last = sight_moves (g.T.HasTask.task old) (g.M.HasParts.parts last) (g.T.HasTask.task new)

pub returns-clause-puts : goal.returns-clause-puts
returns-clause-puts g c old new = put_moves (g.T.HasTask.task old) (g.T.HasTask.task new)

pub returns-clause-looks : goal.returns-clause-looks
returns-clause-looks g c t = look_moves (g.T.HasTask.task t)

pub returns-clause-raises : goal.returns-clause-raises
returns-clause-raises g c t = raise_moves (g.T.HasTask.task t)

pub returns-clause-done : goal.returns-clause-done
returns-clause-done g c t = end_is_done (g.T.HasTask.task t)
