use Rattle.std.proofs.Common.{◌≡◌, length}
use Rattle.hy_connect.specs.Outlets.{Lent}
use Rattle.hy_output.proofs.keeper.Keeper.give_up.Given as goal

abbrev pub invariant-loop-sent : goal.invariant-loop-sent
invariant-loop-sent l = (l.self-inside.state ≡ l.initial.self-inside.state) × Lent 0 0 l.initial.bank l.bank

abbrev pub decreases-loop-sent : goal.decreases-loop-sent
decreases-loop-sent l = length l.self-inside.frames.items
