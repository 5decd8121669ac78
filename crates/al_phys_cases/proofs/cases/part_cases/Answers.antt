use Rattle.al_phys_cases.proofs.Exchanges.{scan_deals, select_in_parts, hash_moves, broadcast_copies, gather_mixes, merge_orders}
use Rattle.al_phys_cases.proofs.GroupRows.{group_over_hash, group_in_parts, counts_are_joined}
use Rattle.al_phys_cases.proofs.Hashing.{hash_join_pairs, left_join_keeps, loop_join_pairs}
use Rattle.al_phys_cases.proofs.cases.part_cases.Goals as goal

pub returns-clause-scan : goal.returns-clause-scan
returns-clause-scan c = scan_deals

pub returns-clause-select : goal.returns-clause-select
returns-clause-select c = select_in_parts

pub returns-clause-hash : goal.returns-clause-hash
returns-clause-hash c = hash_moves

pub returns-clause-broadcast : goal.returns-clause-broadcast
returns-clause-broadcast c = broadcast_copies

pub returns-clause-gather : goal.returns-clause-gather
returns-clause-gather c = gather_mixes

pub returns-clause-merge : goal.returns-clause-merge
returns-clause-merge c = merge_orders

pub returns-clause-group : goal.returns-clause-group
returns-clause-group c = group_over_hash

pub returns-clause-group_in_parts : goal.returns-clause-group_in_parts
returns-clause-group_in_parts c = group_in_parts

pub returns-clause-aggregate : goal.returns-clause-aggregate
returns-clause-aggregate c = counts_are_joined

pub returns-clause-hash_join : goal.returns-clause-hash_join
returns-clause-hash_join c = hash_join_pairs

pub returns-clause-left_join : goal.returns-clause-left_join
returns-clause-left_join c = left_join_keeps

pub returns-clause-loop_join : goal.returns-clause-loop_join
returns-clause-loop_join c = loop_join_pairs
