use Rattle.std.proofs.Common.{◌≡◌, ◌<◌, ℕ, length, get_or}
use Rattle.hy_connect.specs.Sources.{new_source, source_at}
use Rattle.hy_connect.proofs.source.make_sources.Given as goal

abbrev pub invariant-loop-mailbox : goal.invariant-loop-mailbox
invariant-loop-mailbox l = (length l.sources.items ≡ l.mailbox-index) × ((s : ℕ) → s < l.mailbox-index → source_at l.sources.items s ≡ new_source (get_or l.boxes s 0))
