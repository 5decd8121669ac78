use Rattle.std.proofs.Common.{◌≡◌, ◌<◌, ℕ, true}
use Rattle.hy_connect.specs.Sources.{source_at}
use Rattle.hy_connect.proofs.source.all_closed.Given as goal

abbrev pub invariant-loop-source : goal.invariant-loop-source
invariant-loop-source l = (s : ℕ) → s < l.source-index → (source_at l.sources s).closed ≡ true
