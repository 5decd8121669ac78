use Rattle.std.proofs.Common.{◌≡◌, take}
use Rattle.al_rules_prune.proofs.cuts.copy_keys.Given as goal

abbrev pub invariant-loop-k : goal.invariant-loop-k
invariant-loop-k l = l.copies ≡ take l.k-index l.keys
