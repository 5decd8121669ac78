use Rattle.hy_worker.proofs.CaseLaws.{all_is_let_go, boxes_apart, each_has_ended, failed_closes, faults_have_causes, finish_closes, first_one_wants, going_on_feeds, new_hold_none, nothing_is_kept, offers_what_waits, parcels_come, parts_last, ready_with_rows, room_is_counted, spent_hold_none, takes_of_one_sender, turns_are_used, whole_counts}
use Rattle.hy_worker.proofs.laws.worker_cases.Goals as goal

pub returns-clause-ready : goal.returns-clause-ready
returns-clause-ready c = ready_with_rows

pub returns-clause-wanting : goal.returns-clause-wanting
returns-clause-wanting c = first_one_wants

pub returns-clause-over : goal.returns-clause-over
returns-clause-over c = each_has_ended

pub returns-clause-apart : goal.returns-clause-apart
returns-clause-apart c = boxes_apart

pub returns-clause-spent : goal.returns-clause-spent
returns-clause-spent c = spent_hold_none

pub returns-clause-room : goal.returns-clause-room
returns-clause-room c = room_is_counted

pub returns-clause-whole : goal.returns-clause-whole
returns-clause-whole c = whole_counts

pub returns-clause-lasts : goal.returns-clause-lasts
returns-clause-lasts c = parts_last

pub returns-clause-went : goal.returns-clause-went
returns-clause-went c = going_on_feeds

pub returns-clause-turned : goal.returns-clause-turned
returns-clause-turned c = turns_are_used

pub returns-clause-came : goal.returns-clause-came
returns-clause-came c = parcels_come

pub returns-clause-finished : goal.returns-clause-finished
returns-clause-finished c = finish_closes

pub returns-clause-offered : goal.returns-clause-offered
returns-clause-offered c = offers_what_waits

pub returns-clause-gave_up : goal.returns-clause-gave_up
returns-clause-gave_up c = nothing_is_kept

pub returns-clause-closed : goal.returns-clause-closed
returns-clause-closed c = failed_closes

pub returns-clause-took : goal.returns-clause-took
returns-clause-took c = takes_of_one_sender

pub returns-clause-faults : goal.returns-clause-faults
returns-clause-faults c = faults_have_causes

pub returns-clause-let_go : goal.returns-clause-let_go
returns-clause-let_go c = all_is_let_go

pub returns-clause-new : goal.returns-clause-new
returns-clause-new c = new_hold_none
