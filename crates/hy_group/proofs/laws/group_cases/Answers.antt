use Rattle.hy_group.proofs.CaseProofs.{groups_are_given_once, each_aggregate_has_state, behind_keys, null_is_one, others_are_new, own_keys, stand_for_rows}
use Rattle.hy_group.proofs.laws.group_cases.Goals as goal

pub returns-clause-null : goal.returns-clause-null
returns-clause-null c = null_is_one

pub returns-clause-others : goal.returns-clause-others
returns-clause-others c = others_are_new

pub returns-clause-stand : goal.returns-clause-stand
returns-clause-stand c = stand_for_rows

pub returns-clause-own_keys : goal.returns-clause-own_keys
returns-clause-own_keys c = own_keys

pub returns-clause-fields : goal.returns-clause-fields
returns-clause-fields c = behind_keys

pub returns-clause-given : goal.returns-clause-given
returns-clause-given c = groups_are_given_once

pub returns-clause-states : goal.returns-clause-states
returns-clause-states c = each_aggregate_has_state
