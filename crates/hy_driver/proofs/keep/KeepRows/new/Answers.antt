use Rattle.hy_driver.proofs.Keeping.{keep_new}
use Rattle.hy_driver.proofs.keep.KeepRows.new.Goals as goal

pub returns-clause-new : goal.returns-clause-new
returns-clause-new c = keep_new _ _ c.new.ensures
