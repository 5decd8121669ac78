use Rattle.std.proofs.Common.{◌≡◌, length}
use Rattle.hy_job.specs.Finding as spec
use Rattle.hy_job.proofs.staging.stages.Given as goal

abbrev pub invariant-loop-root : goal.invariant-loop-root
invariant-loop-root l = (l.blocks ≡ l.job.blocks) × spec.AreRoots l.job l.roots.items × spec.AreSoFar l.job l.roots.items l.left.items l.stages

abbrev pub decreases-loop-root : goal.decreases-loop-root
decreases-loop-root l = length l.left.items
