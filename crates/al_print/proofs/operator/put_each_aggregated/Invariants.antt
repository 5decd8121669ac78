use Rattle.std.proofs.Common.{◌≡◌, take}
use Rattle.std.specs.List.{flat_map}
use Rattle.al_plan.specs.Grammar as grammar
use Rattle.al_print.specs.Canonical.{after}
use Rattle.al_print.proofs.operator.put_each_aggregated.Given as goal

abbrev pub invariant-loop-m : goal.invariant-loop-m
invariant-loop-m l = l.line ≡ after l.initial.line (flat_map grammar.aggregated_words (take l.m-index l.made))
