use Rattle.std.proofs.Common.{◌≡◌, length, take}
use Rattle.hy_job.specs.Nested.{chain_rows}
use Rattle.hy_job.specs.States.{AreStates}
use Rattle.hy_nested.proofs.run.over_chain.Given as goal

abbrev pub invariant-loop-row : goal.invariant-loop-row
invariant-loop-row l = record { each : length l.states.items ≡ length l.made; seen : AreStates l.made (chain_rows l.chain (take l.row-index l.outer)) l.states.items }
