use Rattle.std.proofs.Common.{◌≡◌, take}
use Rattle.al_jobgen.specs.Columns.{sort_keys}
use Rattle.al_jobgen.proofs.columns.sort_keys.Given as goal

abbrev pub invariant-loop-key : goal.invariant-loop-key
invariant-loop-key l = l.by ≡ sort_keys l.vars (take l.key-index l.keys)
