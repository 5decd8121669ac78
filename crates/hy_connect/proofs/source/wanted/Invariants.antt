use Rattle.std.proofs.Common.{◌<◌, ℕ}
use Rattle.hy_connect.specs.Sources.{Lacks, source_at}
use Rattle.hy_connect.proofs.source.wanted.Given as goal

abbrev pub invariant-loop-s : goal.invariant-loop-s
invariant-loop-s l = (j : ℕ) → j < l.s → Lacks (source_at l.sources j) → ⊥
