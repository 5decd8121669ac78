use Rattle.al_phys_cases.proofs.Stretching.{stretches_are_grouped, hash_groups_stretches}
use Rattle.al_phys_cases.proofs.Each.{limit_in_parts, local_limit_in_parts, project_in_parts, result_in_parts, distinct_in_parts, distinct_over_hash, union_in_parts}
use Rattle.al_phys_cases.proofs.cases.each_part_cases.Goals as goal

pub returns-clause-limit : goal.returns-clause-limit
returns-clause-limit c = limit_in_parts

pub returns-clause-local_limit : goal.returns-clause-local_limit
returns-clause-local_limit c = local_limit_in_parts

pub returns-clause-project : goal.returns-clause-project
returns-clause-project c = project_in_parts

pub returns-clause-result_cuts : goal.returns-clause-result_cuts
returns-clause-result_cuts c = result_in_parts

pub returns-clause-distinct : goal.returns-clause-distinct
returns-clause-distinct c = distinct_in_parts

pub returns-clause-distinct_hash : goal.returns-clause-distinct_hash
returns-clause-distinct_hash c = distinct_over_hash

pub returns-clause-union : goal.returns-clause-union
returns-clause-union c = union_in_parts

pub returns-clause-stretches : goal.returns-clause-stretches
returns-clause-stretches c = stretches_are_grouped

pub returns-clause-hash_group : goal.returns-clause-hash_group
returns-clause-hash_group c = hash_groups_stretches
