use Rattle.std.proofs.Common.{◌≡◌, ◌++◌, take}
use Rattle.al_plan.proofs.variables.joined_vars.Given as goal

abbrev pub invariant-loop-v : goal.invariant-loop-v
invariant-loop-v l = l.all ≡ l.fn.vars ++ take l.v-index l.more
