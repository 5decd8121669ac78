use Rattle.std.proofs.Common.{◌≡◌, ◌++◌, take}
use Rattle.al_print.specs.Jobs.{stage_lines}
use Rattle.al_print.proofs.job.push_stages.Given as goal

abbrev pub invariant-loop-number : goal.invariant-loop-number
invariant-loop-number l = l.text ≡ l.initial.text ++ stage_lines 0 (take l.number l.stages)
