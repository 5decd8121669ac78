use Rattle.std.proofs.Common.{◌<◌, ◌≤◌, ℕ}
use Rattle.hy_input.specs.Inputs.{Wants}
use Rattle.hy_worker.specs.Worker.{input_at}
use Rattle.hy_worker.proofs.pipeline.Pipeline.wanting.Given as goal

abbrev pub invariant-loop-k : goal.invariant-loop-k
invariant-loop-k g l = (j : ℕ) → l.fn.from ≤ j → j < l.k → Wants (input_at l.fn.self.inputs.items j) → ⊥
