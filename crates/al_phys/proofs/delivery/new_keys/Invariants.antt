use Rattle.std.proofs.Common.{◌≡◌, map, take}
use Rattle.al_phys.specs.Properties.{new_for}
use Rattle.al_phys.proofs.delivery.new_keys.Given as goal

abbrev pub invariant-loop-v : goal.invariant-loop-v
invariant-loop-v l = l.vars ≡ map (new_for l.keys) (take l.v-index l.by)
