use Rattle.std.proofs.Common.{◌≡◌, take}
use Rattle.al_rules_prune.proofs.parts.copy_vars.Given as goal

abbrev pub invariant-loop-v : goal.invariant-loop-v
invariant-loop-v l = l.copies ≡ take l.v-index l.vars
