use Rattle.std.proofs.Common.{take}
use Rattle.hy_aggregate.proofs.Joining.{AreFresh}
use Rattle.hy_aggregate.proofs.work.start_joined.Given as goal

abbrev pub invariant-loop-a : goal.invariant-loop-a
invariant-loop-a l = AreFresh (take l.a-index l.made) l.states.items
