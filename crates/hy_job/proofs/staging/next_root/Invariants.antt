use Rattle.std.proofs.Common.{◌≡◌, drop}
use Rattle.hy_job.specs.Finding as spec
use Rattle.hy_job.proofs.staging.next_root.Given as goal

abbrev pub invariant-loop-a : goal.invariant-loop-a
invariant-loop-a l = spec.next_root l.blocks l.roots l.left ≡ spec.first_root (spec.is_ready l.blocks l.roots l.left) l.roots (drop l.a-index l.left)
