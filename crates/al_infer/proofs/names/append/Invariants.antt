use Rattle.std.proofs.Common.{◌≡◌, ◌++◌, take}
use Rattle.al_infer.proofs.names.append.Given as goal

abbrev pub invariant-loop-v : goal.invariant-loop-v
invariant-loop-v l = l.list ≡ l.initial.list ++ take l.v-index l.vars
