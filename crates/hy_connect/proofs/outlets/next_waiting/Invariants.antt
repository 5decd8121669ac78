use Rattle.std.proofs.Common.{◌≡◌, ◌<◌, ℕ, []}
use Rattle.hy_connect.specs.Outlets.{outlet_at}
use Rattle.hy_connect.proofs.outlets.next_waiting.Given as goal

abbrev pub invariant-loop-k : goal.invariant-loop-k
invariant-loop-k l = (j : ℕ) → j < l.k → (outlet_at l.outlets j).waits ≡ []
