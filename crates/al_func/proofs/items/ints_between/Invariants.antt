use Rattle.std.proofs.Common.{◌≡◌}
use Rattle.al_func.specs.Items as spec
use Rattle.al_func.proofs.items.ints_between.Given as goal

abbrev pub invariant-loop-k : goal.invariant-loop-k
invariant-loop-k l = l.items ≡ spec.ints_from l.a l.k
