use Rattle.std.proofs.Common.{◌≡◌, take}
use Rattle.std.specs.List.{flat_map}
use Rattle.al_plan.specs.Grammar as grammar
use Rattle.al_print.specs.Canonical.{after}
use Rattle.al_print.proofs.operator.put_each_key.Given as goal

abbrev pub invariant-loop-key : goal.invariant-loop-key
invariant-loop-key l = l.line ≡ after l.initial.line (flat_map grammar.key_words (take l.key-index l.keys))
