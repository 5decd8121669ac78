use Rattle.hy_worker.proofs.LawProofs.{empty_closes_none, empty_no_step, empty_tests_none, giving_up_closes_none, lasts_then, new_inputs_hold_none, new_merges_hold_none, none_is_out, task_has_room}
use Rattle.hy_worker.proofs.laws.worker_laws.Goals as goal

pub returns-clause-empty : goal.returns-clause-empty
returns-clause-empty g c = λ old new. empty_no_step (g.T.HasWorker.worker old) (g.T.HasWorker.worker new)

pub returns-clause-empty_closes : goal.returns-clause-empty_closes
returns-clause-empty_closes g c = λ old new. empty_closes_none (g.T.HasWorker.worker old) (g.T.HasWorker.worker new)

pub returns-clause-empty_tests : goal.returns-clause-empty_tests
returns-clause-empty_tests g c = λ old new. empty_tests_none (g.T.HasWorker.worker old) (g.T.HasWorker.worker new)

pub returns-clause-gave_up : goal.returns-clause-gave_up
returns-clause-gave_up g c = λ old new. giving_up_closes_none (g.T.HasWorker.worker old) (g.T.HasWorker.worker new)

pub returns-clause-lasts : goal.returns-clause-lasts
returns-clause-lasts g c = λ first second third. lasts_then (g.T.HasWorker.worker first) (g.T.HasWorker.worker second) (g.T.HasWorker.worker third)

pub returns-clause-room : goal.returns-clause-room
returns-clause-room g c = task_has_room

pub returns-clause-none_out : goal.returns-clause-none_out
returns-clause-none_out g c = λ t. none_is_out (g.T.HasWorker.worker t)

pub returns-clause-new_merges : goal.returns-clause-new_merges
returns-clause-new_merges g c = new_merges_hold_none

pub returns-clause-new_inputs : goal.returns-clause-new_inputs
returns-clause-new_inputs g c = new_inputs_hold_none
