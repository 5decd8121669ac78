use Rattle.std.proofs.Common.{◌≡◌, ◌<◌, ℕ, length, get_or}
use Rattle.hy_connect.specs.Outlets.{outlet_at}
use Rattle.hy_connect.specs.Many.{IsFresh}
use Rattle.hy_connect.proofs.outlets.make_outlets.Given as goal

abbrev pub invariant-loop-mailbox : goal.invariant-loop-mailbox
invariant-loop-mailbox l = (length l.outlets.items ≡ l.mailbox-index) × ((k : ℕ) → k < l.mailbox-index → IsFresh (get_or l.boxes k 0) (outlet_at l.outlets.items k))
