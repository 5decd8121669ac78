use Rattle.std.proofs.Common.{◌<◌, ℕ}
use Rattle.hy_worker.specs.Worker.{IsReadyOf}
use Rattle.hy_worker.proofs.pipeline.Pipeline.ready.Given as goal

abbrev pub invariant-loop-k : goal.invariant-loop-k
invariant-loop-k g l = (j : ℕ) → j < l.k → IsReadyOf l.fn.self.inputs.items l.fn.self.ended.items j → ⊥
