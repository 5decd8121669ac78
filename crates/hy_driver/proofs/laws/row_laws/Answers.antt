use Rattle.hy_driver.proofs.Values.{values_again, fields_again}
use Rattle.hy_driver.proofs.laws.row_laws.Goals as goal

pub returns-clause-values : goal.returns-clause-values
returns-clause-values c = values_again

pub returns-clause-fields : goal.returns-clause-fields
returns-clause-fields c = fields_again
