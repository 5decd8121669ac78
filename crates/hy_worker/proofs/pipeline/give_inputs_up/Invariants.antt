use Rattle.hy_connect.specs.Outlets.{Lent}
use Rattle.hy_worker.specs.Worker.{held_inputs}
use Rattle.hy_worker.specs.Calls.{GaveUpBefore}
use Rattle.hy_worker.proofs.pipeline.give_inputs_up.Given as goal

abbrev pub invariant-loop-k : goal.invariant-loop-k
invariant-loop-k l = GaveUpBefore l.k l.initial.inputs.items l.inputs.items × Lent (held_inputs l.initial.inputs.items) (held_inputs l.inputs.items) l.initial.bank l.bank
