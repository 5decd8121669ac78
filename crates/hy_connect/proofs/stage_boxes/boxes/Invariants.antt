use Rattle.std.proofs.Common.{◌≡◌, take, flat_map}
use Rattle.hy_connect.specs.Plans.{edge_plans}
use Rattle.hy_connect.proofs.stage_boxes.boxes.Given as goal

abbrev pub invariant-loop-edge : goal.invariant-loop-edge
invariant-loop-edge l = l.plans ≡ flat_map (edge_plans l.job l.stage) (take l.edge-index l.job.edges)
