use Rattle.hy_driver_tests.proofs.drivers.passing.Goals as goal

pub returns-clause-to_come : goal.returns-clause-to_come
returns-clause-to_come c = c.new.ensures.input 0
