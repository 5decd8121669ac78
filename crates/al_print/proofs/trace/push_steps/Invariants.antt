use Rattle.std.proofs.Common.{◌≡◌, ◌++◌, take}
use Rattle.al_print.specs.Traces.{step_lines}
use Rattle.al_print.proofs.trace.push_steps.Given as goal

abbrev pub invariant-loop-before : goal.invariant-loop-before
invariant-loop-before l = l.text ≡ l.initial.text ++ step_lines 0 (take l.before l.steps)
