use Rattle.hy_test_runs.specs.Ready.{IsReady}
use Rattle.hy_test_runs.proofs.run.run_to_end.Given as goal

abbrev pub invariant-loop : goal.invariant-loop
invariant-loop g l = IsReady l.width l.input.goes_on (g.D.Driver.seen l.driver) l.bank
