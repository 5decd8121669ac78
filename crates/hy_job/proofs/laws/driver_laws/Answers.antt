use Rattle.hy_job.proofs.Drivers.{new_drivers_give, drivers_move}
use Rattle.hy_job.proofs.laws.driver_laws.Goals as goal

pub returns-clause-new : goal.returns-clause-new
returns-clause-new c = new_drivers_give

pub returns-clause-moved : goal.returns-clause-moved
returns-clause-moved c = drivers_move
