use Rattle.std.proofs.Common.{◌≡◌, ◌≤◌, length}
use Rattle.hy_job.specs.Finding as spec
use Rattle.hy_job.proofs.staging.find_roots.Given as goal

abbrev pub invariant-loop-place : goal.invariant-loop-place
invariant-loop-place l = (l.edges ≡ l.job.edges) × (l.place ≤ length l.job.activities) × spec.AreRootsFrom l.job l.roots.items l.place

abbrev pub decreases-loop-place : goal.decreases-loop-place
decreases-loop-place l = l.place
