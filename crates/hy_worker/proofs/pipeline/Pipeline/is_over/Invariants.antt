use Rattle.std.proofs.Common.{◌<◌, ℕ}
use Rattle.hy_input.specs.Inputs.{HasEnded}
use Rattle.hy_worker.specs.Worker.{input_at}
use Rattle.hy_worker.proofs.pipeline.Pipeline.is_over.Given as goal

abbrev pub invariant-loop-input : goal.invariant-loop-input
invariant-loop-input g l = (k : ℕ) → k < l.input-index → HasEnded (input_at l.fn.self.inputs.items k)
