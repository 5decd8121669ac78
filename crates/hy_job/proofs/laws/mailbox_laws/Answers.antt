use Rattle.hy_job.proofs.Boxes.{tasks_numbered, boxes_have_origins, origins_one_to_one, receivers_have_boxes, boxes_reached}
use Rattle.hy_job.proofs.laws.mailbox_laws.Goals as goal

pub returns-clause-tasks : goal.returns-clause-tasks
returns-clause-tasks c = tasks_numbered

pub returns-clause-origins : goal.returns-clause-origins
returns-clause-origins c = boxes_have_origins

pub returns-clause-one_to_one : goal.returns-clause-one_to_one
returns-clause-one_to_one c = origins_one_to_one

pub returns-clause-receivers : goal.returns-clause-receivers
returns-clause-receivers c = receivers_have_boxes

pub returns-clause-reached : goal.returns-clause-reached
returns-clause-reached c = boxes_reached
