use Rattle.hy_aggregate.proofs.Lasting.{Values}
use Rattle.hy_aggregate.proofs.work.agg_values.Given as goal

abbrev pub invariant-loop-part : goal.invariant-loop-part
invariant-loop-part l = Values l.yielded l.row
