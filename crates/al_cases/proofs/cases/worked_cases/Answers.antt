use Rattle.al_cases.proofs.Simple.{scan_is_free, empty_is_one_row, select_drops_null, project_cuts, result_cuts, distinct_null, nothing_is_counted, limit_takes_any}
use Rattle.al_cases.proofs.Ordered.{order_rises, order_falls, ties_are_free, limit_skips, check_sees_all, checks_fault_both, check_passes}
use Rattle.al_cases.proofs.Joined.{join_drops_alone, nulls_do_not_join, left_join_alone, union_keeps_all}
use Rattle.al_cases.proofs.Nests.{assign_adds, unnest_gives_pieces, unnest_keeps_order, subplan_counts}
use Rattle.al_cases.proofs.Groups.{null_is_a_group, group_for_each_key, no_rows_no_group}
use Rattle.al_cases.proofs.cases.worked_cases.Goals as goal

pub returns-clause-scan : goal.returns-clause-scan
returns-clause-scan c = scan_is_free

pub returns-clause-empty : goal.returns-clause-empty
returns-clause-empty c = empty_is_one_row

pub returns-clause-assign : goal.returns-clause-assign
returns-clause-assign c = assign_adds

pub returns-clause-select : goal.returns-clause-select
returns-clause-select c = select_drops_null

pub returns-clause-project : goal.returns-clause-project
returns-clause-project c = project_cuts

pub returns-clause-result_cuts : goal.returns-clause-result_cuts
returns-clause-result_cuts c = result_cuts

pub returns-clause-unnest : goal.returns-clause-unnest
returns-clause-unnest c = unnest_gives_pieces

pub returns-clause-unnest_ordered : goal.returns-clause-unnest_ordered
returns-clause-unnest_ordered c = unnest_keeps_order

pub returns-clause-subplan : goal.returns-clause-subplan
returns-clause-subplan c = subplan_counts

pub returns-clause-join : goal.returns-clause-join
returns-clause-join c = join_drops_alone

pub returns-clause-left_join : goal.returns-clause-left_join
returns-clause-left_join c = left_join_alone

pub returns-clause-group : goal.returns-clause-group
returns-clause-group c = null_is_a_group

pub returns-clause-each_key : goal.returns-clause-each_key
returns-clause-each_key c = group_for_each_key

pub returns-clause-no_group : goal.returns-clause-no_group
returns-clause-no_group c = no_rows_no_group

pub returns-clause-distinct : goal.returns-clause-distinct
returns-clause-distinct c = distinct_null

pub returns-clause-union : goal.returns-clause-union
returns-clause-union c = union_keeps_all

pub returns-clause-aggregate : goal.returns-clause-aggregate
returns-clause-aggregate c = nothing_is_counted

pub returns-clause-order : goal.returns-clause-order
returns-clause-order c = order_rises

pub returns-clause-order_falls : goal.returns-clause-order_falls
returns-clause-order_falls c = order_falls

pub returns-clause-ties : goal.returns-clause-ties
returns-clause-ties c = ties_are_free

pub returns-clause-limit : goal.returns-clause-limit
returns-clause-limit c = limit_takes_any

pub returns-clause-limit_skips : goal.returns-clause-limit_skips
returns-clause-limit_skips c = limit_skips

pub returns-clause-check : goal.returns-clause-check
returns-clause-check c = check_sees_all

pub returns-clause-check_passes : goal.returns-clause-check_passes
returns-clause-check_passes c = check_passes

pub returns-clause-join_null : goal.returns-clause-join_null
returns-clause-join_null c = nulls_do_not_join

pub returns-clause-two_checks : goal.returns-clause-two_checks
returns-clause-two_checks c = checks_fault_both
