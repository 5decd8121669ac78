use Rattle.std.proofs.Common.{◌≤◌, List, length, ap, ◌∙◌, arith, take_all, flat_map}
use Rattle.hy_job.specs.declared.job.Edge.{Edge}
use Rattle.hy_connect.specs.Plans.{edge_plans}
use Rattle.hy_connect.proofs.Planning.{few_in, stage_plans}
use Rattle.hy_connect.proofs.stage_boxes.boxes.Goals as goal

pub push_edge-requires-clause-few : goal.push_edge-requires-clause-few
push_edge-requires-clause-few c = few_in c.args.job.now c.args.stage.now c.requires.sound c.requires.part

pub returns : goal.returns
returns c =
    let edges = c.args.job.now.edges in
    let items = c.as_slice-edge-items.ensures in
    let all : length edges ≤ c.loop-edge.edge-index = omega (arith, ap (λ (l : List Edge). length l) items) in
    c.loop-edge.invariant ∙ ap (λ (l : List Edge). flat_map (edge_plans c.args.job.now c.args.stage.now) l) (take_all c.loop-edge.edge-index edges all)
    ∙ stage_plans c.args.job.now c.args.stage.now c.requires.part
