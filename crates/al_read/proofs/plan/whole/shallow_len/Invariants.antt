use Rattle.std.proofs.Common.{◌≡◌, ℕ, ◌+◌, ◌-◌, ◌≤◌, length}
use Rattle.al_read.specs.PlanReading.{shallow_len}
use Rattle.al_read.proofs.plan.whole.shallow_len.Given as goal

abbrev pub invariant-loop-rest : goal.invariant-loop-rest
invariant-loop-rest l = record { is : shallow_len 0 l.tokens ≡ (length l.tokens - length l.rest) + shallow_len l.depth l.rest; within : length l.rest ≤ length l.tokens }

abbrev pub decreases-loop-rest : goal.decreases-loop-rest
decreases-loop-rest l = length l.rest
