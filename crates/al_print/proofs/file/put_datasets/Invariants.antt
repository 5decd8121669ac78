use Rattle.std.proofs.Common.{◌≡◌, take}
use Rattle.std.specs.List.{flat_map}
use Rattle.al_plan.specs.Grammar as grammar
use Rattle.al_print.specs.Canonical.{after}
use Rattle.al_print.proofs.file.put_datasets.Given as goal

abbrev pub invariant-loop-decl : goal.invariant-loop-decl
invariant-loop-decl l = l.line ≡ after l.initial.line (flat_map grammar.dataset_words (take l.decl-index l.decls))
