use Rattle.hy_store.proofs.FieldLaws.{fields_are_values, rows_are_values, one_row}
use Rattle.hy_store.proofs.laws.field_laws.Goals as goal

pub returns-clause-fields : goal.returns-clause-fields
returns-clause-fields c = fields_are_values

pub returns-clause-rows : goal.returns-clause-rows
returns-clause-rows c = rows_are_values

pub returns-clause-one : goal.returns-clause-one
returns-clause-one c = one_row
