use Rattle.hy_places.proofs.Steps.{fed_is, unfed_is}
use Rattle.hy_places.proofs.boxes.edge_into.Goals as goal

pub returns-then-place-edges : goal.returns-then-place-edges
returns-then-place-edges c = unfed_is c.args.job.now c.args.activity c.args.input c.as_slice-edges.result.now c.place_into-place.result c.as_slice-edges.ensures c.place_into-place.ensures.place c.if-place-edges.true

pub returns : goal.returns
returns c =
    fed_is c.args.job.now c.args.activity c.args.input c.as_slice-edges.result.now c.place_into-place.result c.index-edges-place.result c.as_slice-edges.ensures
    c.place_into-place.ensures.place c.place_into-place.ensures.within c.if-place-edges.false c.index-edges-place.is
