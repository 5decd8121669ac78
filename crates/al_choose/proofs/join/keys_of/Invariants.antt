use Rattle.std.proofs.Common.{◌≡◌, take, filter_map}
use Rattle.al_phys.specs.Properties.{equi_key}
use Rattle.al_choose.proofs.join.keys_of.Given as goal

abbrev pub invariant-loop-e : goal.invariant-loop-e
invariant-loop-e l = l.keys ≡ filter_map (equi_key l.ls l.rs) (take l.e-index l.conjuncts)
