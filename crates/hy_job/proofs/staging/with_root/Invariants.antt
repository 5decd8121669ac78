use Rattle.std.proofs.Common.{◌≡◌, take}
use Rattle.hy_job.specs.Finding as spec
use Rattle.hy_job.proofs.staging.with_root.Given as goal

abbrev pub invariant-loop-a : goal.invariant-loop-a
invariant-loop-a l = l.part ≡ spec.with_root l.roots l.root (take l.a-index l.left)
