use Rattle.hy_operator.proofs.CaseProofs.{checks_are_named, distinct_is_handed_keys, each_is_given, first_ones_hand_on, kinds_are_told, listed_if_there, one_begins, rows_are_handed, project_suits, settings_are_kept, turns_are_counted, union_suits, wanted_is_there}
use Rattle.hy_operator.proofs.laws.operator_cases.Goals as goal

pub returns-clause-given : goal.returns-clause-given
returns-clause-given c = each_is_given

pub returns-clause-wanted : goal.returns-clause-wanted
returns-clause-wanted c = wanted_is_there

pub returns-clause-handed : goal.returns-clause-handed
returns-clause-handed c = rows_are_handed

pub returns-clause-keys : goal.returns-clause-keys
returns-clause-keys c = distinct_is_handed_keys

pub returns-clause-project : goal.returns-clause-project
returns-clause-project c = project_suits

pub returns-clause-first : goal.returns-clause-first
returns-clause-first c = first_ones_hand_on

pub returns-clause-union_ : goal.returns-clause-union_
returns-clause-union_ c = union_suits

pub returns-clause-one : goal.returns-clause-one
returns-clause-one c = one_begins

pub returns-clause-turns : goal.returns-clause-turns
returns-clause-turns c = turns_are_counted

pub returns-clause-kinds : goal.returns-clause-kinds
returns-clause-kinds c = kinds_are_told

pub returns-clause-listed : goal.returns-clause-listed
returns-clause-listed c = listed_if_there

pub returns-clause-checks : goal.returns-clause-checks
returns-clause-checks c = checks_are_named

pub returns-clause-settings : goal.returns-clause-settings
returns-clause-settings c = settings_are_kept
