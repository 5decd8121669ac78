use Rattle.hy_connect.proofs.Leasts.{LeastBefore}
use Rattle.hy_connect.proofs.source.least_of.Given as goal

abbrev pub invariant-loop-k : goal.invariant-loop-k
invariant-loop-k l = LeastBefore l.keys l.sources l.k l.least
