use Rattle.al_data_cases.proofs.Files.{fields_of_kinds, rows_of_records}
use Rattle.al_data_cases.proofs.cases.file_cases.Goals as goal

pub returns-clause-fields : goal.returns-clause-fields
returns-clause-fields c = fields_of_kinds

pub returns-clause-rows : goal.returns-clause-rows
returns-clause-rows c = rows_of_records
