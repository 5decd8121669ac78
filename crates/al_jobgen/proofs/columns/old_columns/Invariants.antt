use Rattle.std.proofs.Common.{◌≡◌, map, take}
use Rattle.al_jobgen.specs.Columns.{columns_of}
use Rattle.al_jobgen.proofs.columns.old_columns.Given as goal

abbrev pub invariant-loop-old : goal.invariant-loop-old
invariant-loop-old l = l.columns ≡ columns_of l.vars (map (λ k. k.1) (take l.old-index l.keys))
