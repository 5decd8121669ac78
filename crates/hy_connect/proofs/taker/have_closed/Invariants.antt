use Rattle.std.proofs.Common.{◌≡◌, ◌<◌, ℕ, true, get_or}
use Rattle.hy_connect.proofs.taker.have_closed.Given as goal

abbrev pub invariant-loop-flag : goal.invariant-loop-flag
invariant-loop-flag l = (s : ℕ) → s < l.flag-index → get_or l.closed s true ≡ true
