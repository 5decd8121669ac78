use Rattle.std.proofs.Common.{◌≡◌, take}
use Rattle.std.specs.List.{flat_map}
use Rattle.al_plan.specs.Grammar.{expr_words}
use Rattle.al_print.specs.Canonical.{after}
use Rattle.al_print.proofs.expr.+put_expr.Given as goal

abbrev pub invariant-put_args-loop-e : goal.invariant-put_args-loop-e
invariant-put_args-loop-e l = l.line ≡ after l.initial.line (flat_map expr_words (take l.e-index l.args))
