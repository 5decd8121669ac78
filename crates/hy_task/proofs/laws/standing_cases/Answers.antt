use Rattle.hy_task.proofs.CaseLaws.{ends_without_duties, fail_waits_in_one, faults_are_outcomes, faults_are_raised, filled_is_owed, finished_leaves_nothing, hands_on_by_way, places_are_receivers, rows_at_hand_are_to_come, senders_are_of_edges, tells_what_is_left, through_has_tested}
use Rattle.hy_task.proofs.laws.standing_cases.Goals as goal

pub returns-clause-places : goal.returns-clause-places
returns-clause-places c = places_are_receivers

pub returns-clause-senders : goal.returns-clause-senders
returns-clause-senders c = senders_are_of_edges

pub returns-clause-tells : goal.returns-clause-tells
returns-clause-tells c = tells_what_is_left

pub returns-clause-through : goal.returns-clause-through
returns-clause-through c = through_has_tested

pub returns-clause-filled : goal.returns-clause-filled
returns-clause-filled c = filled_is_owed

pub returns-clause-no_fail : goal.returns-clause-no_fail
returns-clause-no_fail c = fail_waits_in_one

pub returns-clause-hands_on : goal.returns-clause-hands_on
returns-clause-hands_on c = hands_on_by_way

pub returns-clause-finished : goal.returns-clause-finished
returns-clause-finished c = finished_leaves_nothing

pub returns-clause-at_hand : goal.returns-clause-at_hand
returns-clause-at_hand c = rows_at_hand_are_to_come

pub returns-clause-raised : goal.returns-clause-raised
returns-clause-raised c = faults_are_raised

pub returns-clause-ends : goal.returns-clause-ends
returns-clause-ends c = ends_without_duties

pub returns-clause-outcomes : goal.returns-clause-outcomes
returns-clause-outcomes c = faults_are_outcomes
