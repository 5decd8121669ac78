use Rattle.std.proofs.Common.{arith}
use Rattle.hy_places.proofs.Steps.{all_small, boxes_small, next_boxes}
use Rattle.hy_places.proofs.boxes.first_box.Goals as goal

pub overflow_add-first : goal.overflow_add-first
overflow_add-first c =
    let small = boxes_small c.args.job.now c.args.stage.now c.as_slice.result.now c.args.place c.loop-edge.edge-index c.loop-edge.first c.boxes_in-first.result c.edge-item.result
    c.requires.sound c.as_slice.ensures c.requires.within c.loop-edge-test.true c.loop-edge.invariant.small c.boxes_in-first.ensures in
    omega (arith, small.1)

pub loop-edge-preserved : goal.loop-edge-preserved
loop-edge-preserved c = record {
  first = next_boxes c.args.job.now c.args.stage.now c.as_slice.result.now c.args.place c.loop-edge.edge-index c.loop-edge.first c.boxes_in-first.result c.edge-item.result
      c.requires.sound c.as_slice.ensures c.requires.within c.loop-edge-test.true c.edge-item.is c.loop-edge.invariant.first c.boxes_in-first.ensures;
  small = (boxes_small c.args.job.now c.args.stage.now c.as_slice.result.now c.args.place c.loop-edge.edge-index c.loop-edge.first c.boxes_in-first.result c.edge-item.result
      c.requires.sound c.as_slice.ensures c.requires.within c.loop-edge-test.true c.loop-edge.invariant.small c.boxes_in-first.ensures).0;
}

pub returns-clause-small : goal.returns-clause-small
returns-clause-small c =
    all_small c.args.job.now c.as_slice.result.now c.args.place c.loop-edge.edge-index c.loop-edge.first c.requires.sound c.as_slice.ensures c.requires.within c.loop-edge.auto.edge-index-end c.loop-edge.invariant.small
