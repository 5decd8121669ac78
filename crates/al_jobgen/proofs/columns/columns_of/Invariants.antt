use Rattle.std.proofs.Common.{◌≡◌, take}
use Rattle.al_jobgen.specs.Columns.{columns_of}
use Rattle.al_jobgen.proofs.columns.columns_of.Given as goal

abbrev pub invariant-loop-v : goal.invariant-loop-v
invariant-loop-v l = l.columns ≡ columns_of l.vars (take l.v-index l.named)
