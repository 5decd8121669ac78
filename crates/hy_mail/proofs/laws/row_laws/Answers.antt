use Rattle.hy_mail.proofs.RowLaws.{fields_are_values, fields_tell, parcels_are_seen, rows_are_values, rows_tell, seen_once}
use Rattle.hy_mail.proofs.laws.row_laws.Goals as goal

pub returns-clause-fields : goal.returns-clause-fields
returns-clause-fields c = fields_are_values

pub returns-clause-one_value : goal.returns-clause-one_value
returns-clause-one_value c = fields_tell

pub returns-clause-rows : goal.returns-clause-rows
returns-clause-rows c = rows_are_values

pub returns-clause-one_row : goal.returns-clause-one_row
returns-clause-one_row c = rows_tell

pub returns-clause-parcels : goal.returns-clause-parcels
returns-clause-parcels c = parcels_are_seen

pub returns-clause-seen_once : goal.returns-clause-seen_once
returns-clause-seen_once c = seen_once
