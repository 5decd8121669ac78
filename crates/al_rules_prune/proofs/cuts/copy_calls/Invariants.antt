use Rattle.std.proofs.Common.{◌≡◌, take}
use Rattle.al_rules_prune.proofs.cuts.copy_calls.Given as goal

abbrev pub invariant-loop-v : goal.invariant-loop-v
invariant-loop-v l = l.copies ≡ take l.v-index l.made
