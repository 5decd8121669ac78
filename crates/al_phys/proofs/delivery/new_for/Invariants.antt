use Rattle.std.proofs.Common.{◌≡◌, drop}
use Rattle.al_phys.specs.Properties.{new_for}
use Rattle.al_phys.proofs.delivery.new_for.Given as goal

abbrev pub invariant-loop-new : goal.invariant-loop-new
invariant-loop-new l = new_for l.keys l.v ≡ new_for (drop l.new-index l.keys) l.v
