use Rattle.std.proofs.Common.{◌≡◌, ◌++◌, take}
use Rattle.std.specs.List.{flat_map}
use Rattle.al_phys.specs.Properties.{equi_keys}
use Rattle.al_phys.proofs.equi.+with_keys.Given as goal

abbrev pub invariant-with_args-loop-e : goal.invariant-with_args-loop-e
invariant-with_args-loop-e l = l.all ≡ l.fn.keys ++ flat_map (equi_keys l.ls l.rs) (take l.e-index l.args)
