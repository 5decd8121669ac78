use Rattle.hy_driver.proofs.Passing.{pass_new}
use Rattle.hy_driver.proofs.pass.PassRows.new.Goals as goal

pub returns-clause-new : goal.returns-clause-new
returns-clause-new c = pass_new _ c.new.result
