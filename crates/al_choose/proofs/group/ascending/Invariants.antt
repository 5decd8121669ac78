use Rattle.std.proofs.Common.{◌≡◌, take}
use Rattle.al_phys.specs.Placed.{ascending}
use Rattle.al_choose.proofs.group.ascending.Given as goal

abbrev pub invariant-loop-old : goal.invariant-loop-old
invariant-loop-old l = l.order ≡ ascending (take l.old-index l.keys)
