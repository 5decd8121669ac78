use Rattle.std.proofs.Common.{◌≡◌, map, take}
use Rattle.al_plan.specs.Grammar as grammar
use Rattle.al_print.specs.Canonical.{after}
use Rattle.al_print.proofs.operator.put_each_var.Given as goal

abbrev pub invariant-loop-v : goal.invariant-loop-v
invariant-loop-v l = l.line ≡ after l.initial.line (map grammar.variable (take l.v-index l.vars))
