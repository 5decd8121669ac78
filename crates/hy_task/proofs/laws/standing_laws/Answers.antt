use Rattle.hy_task.proofs.Working.{close_goes, end_goes, feed_goes, none_goes, open_goes, turn_goes}
use Rattle.hy_task.proofs.Parcels.{came_goes, put_goes}
use Rattle.hy_task.proofs.Breaking.{fail_goes, fault_goes, fault_has_cause, fed_fault_has_cause, sight_goes, spoil_goes}
use Rattle.hy_task.proofs.AfterFailure.{came_after_goes, failed_close_goes, failed_sight_goes, failure_goes, look_goes, none_after_goes, raise_goes}
use Rattle.hy_task.proofs.Ending.{end_is_done_task, new_is_new}
use Rattle.hy_task.proofs.laws.standing_laws.Goals as goal

pub returns-clause-new : goal.returns-clause-new
returns-clause-new g c t = new_is_new (g.T.HasWork.work t)

pub returns-clause-opens : goal.returns-clause-opens
returns-clause-opens g c old new = open_goes (g.T.HasWork.work old) (g.T.HasWork.work new)

pub returns-clause-feeds : goal.returns-clause-feeds
returns-clause-feeds g c old new = feed_goes (g.T.HasWork.work old) (g.T.HasWork.work new)

pub returns-clause-ends : goal.returns-clause-ends
returns-clause-ends g c old new = end_goes (g.T.HasWork.work old) (g.T.HasWork.work new)

pub returns-clause-turns : goal.returns-clause-turns
returns-clause-turns g c old new = turn_goes (g.T.HasWork.work old) (g.T.HasWork.work new)

pub returns-clause-closes : goal.returns-clause-closes
returns-clause-closes g c old new = close_goes (g.T.HasWork.work old) (g.T.HasWork.work new)

pub returns-clause-finds_none : goal.returns-clause-finds_none
returns-clause-finds_none g c old new = none_goes (g.T.HasWork.work old) (g.T.HasWork.work new)

pub returns-clause-came : goal.returns-clause-came
returns-clause-came g c old new = came_goes (g.T.HasWork.work old) (g.T.HasWork.work new)

pub returns-clause-puts : goal.returns-clause-puts
returns-clause-puts g c old new = put_goes (g.T.HasWork.work old) (g.T.HasWork.work new)

pub returns-clause-looks : goal.returns-clause-looks
returns-clause-looks g c old new = look_goes (g.T.HasWork.work old) (g.T.HasWork.work new)

pub returns-clause-sees : goal.returns-clause-sees
returns-clause-sees g c old new = sight_goes (g.T.HasWork.work old) (g.T.HasWork.work new)

pub returns-clause-sees_failed : goal.returns-clause-sees_failed
returns-clause-sees_failed g c old new = failed_sight_goes (g.T.HasWork.work old) (g.T.HasWork.work new)

pub returns-clause-raises : goal.returns-clause-raises
returns-clause-raises g c old new = raise_goes (g.T.HasWork.work old) (g.T.HasWork.work new)

pub returns-clause-faults : goal.returns-clause-faults
returns-clause-faults g c old new = fault_goes (g.T.HasWork.work old) (g.T.HasWork.work new)

pub returns-clause-cause : goal.returns-clause-cause
returns-clause-cause g c old new = fault_has_cause (g.T.HasWork.work old) (g.T.HasWork.work new)

pub returns-clause-fed_cause : goal.returns-clause-fed_cause
returns-clause-fed_cause g c old new = fed_fault_has_cause (g.T.HasWork.work old) (g.T.HasWork.work new)

pub returns-clause-spoils : goal.returns-clause-spoils
returns-clause-spoils g c old new = spoil_goes (g.T.HasWork.work old) (g.T.HasWork.work new)

pub returns-clause-fail_came : goal.returns-clause-fail_came
returns-clause-fail_came g c old new = fail_goes (g.T.HasWork.work old) (g.T.HasWork.work new)

pub returns-clause-came_after : goal.returns-clause-came_after
returns-clause-came_after g c old new = came_after_goes (g.T.HasWork.work old) (g.T.HasWork.work new)

pub returns-clause-none_after : goal.returns-clause-none_after
returns-clause-none_after g c old new = none_after_goes (g.T.HasWork.work old) (g.T.HasWork.work new)

pub returns-clause-tells_failure : goal.returns-clause-tells_failure
returns-clause-tells_failure g c old new = failure_goes (g.T.HasWork.work old) (g.T.HasWork.work new)

pub returns-clause-closes_failed : goal.returns-clause-closes_failed
returns-clause-closes_failed g c old new = failed_close_goes (g.T.HasWork.work old) (g.T.HasWork.work new)

pub returns-clause-done : goal.returns-clause-done
returns-clause-done g c t = end_is_done_task (g.T.HasWork.work t)
