use Rattle.std.proofs.Common.{◌≡◌, true, take}
use Rattle.hy_job.specs.Finding as spec
use Rattle.hy_job.proofs.staging.is_ready.Given as goal

abbrev pub invariant-loop-block : goal.invariant-loop-block
invariant-loop-block l = spec.is_ready (take l.block-index l.blocks) l.roots l.left l.root ≡ true
