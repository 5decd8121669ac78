use Rattle.std.proofs.Common.{◌≡◌, map, take}
use Rattle.al_jobgen.specs.Columns.{agg_kind}
use Rattle.al_jobgen.proofs.columns.agg_kinds.Given as goal

abbrev pub invariant-loop-call : goal.invariant-loop-call
invariant-loop-call l = l.aggs ≡ map (λ m. agg_kind m.1) (take l.call-index l.made)
