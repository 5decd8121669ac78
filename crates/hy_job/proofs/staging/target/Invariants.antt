use Rattle.std.proofs.Common.{◌≡◌, drop}
use Rattle.hy_job.specs.Finding as spec
use Rattle.hy_job.proofs.staging.target.Given as goal

abbrev pub invariant-loop-edge : goal.invariant-loop-edge
invariant-loop-edge l = spec.target_of l.edges l.from ≡ spec.target_of (drop l.edge-index l.edges) l.from
