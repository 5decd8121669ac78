use Rattle.std.proofs.Common.{◌≡◌, take}
use Rattle.std.specs.List.{flat_map}
use Rattle.al_plan.specs.Grammar as grammar
use Rattle.al_print.specs.Canonical.{after}
use Rattle.al_print.proofs.file.put_columns.Given as goal

abbrev pub invariant-loop-column : goal.invariant-loop-column
invariant-loop-column l = l.line ≡ after l.initial.line (flat_map grammar.column_words (take l.column-index l.columns))
