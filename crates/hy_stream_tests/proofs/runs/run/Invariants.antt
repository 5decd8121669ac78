use Rattle.hy_stream_tests.specs.Ready.{IsReady}
use Rattle.hy_stream_tests.proofs.runs.run.Given as goal

abbrev pub invariant-loop : goal.invariant-loop
invariant-loop g l = IsReady l.width l.left.goes_on l.right.goes_on (g.D.Driver.seen l.driver) l.bank
