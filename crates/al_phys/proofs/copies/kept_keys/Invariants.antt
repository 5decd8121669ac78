use Rattle.std.proofs.Common.{◌≡◌, ◌++◌, drop}
use Rattle.al_phys.specs.Properties.{kept_keys}
use Rattle.al_phys.proofs.copies.kept_keys.Given as goal

abbrev pub invariant-loop-key : goal.invariant-loop-key
invariant-loop-key l = l.kept ++ kept_keys l.vars (drop l.key-index l.keys) ≡ kept_keys l.vars l.keys
