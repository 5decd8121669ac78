use Rattle.hy_places.proofs.Steps.{left_is, unleft_is}
use Rattle.hy_places.proofs.boxes.edge_from.Goals as goal

pub returns-then-place-edges : goal.returns-then-place-edges
returns-then-place-edges c = unleft_is c.args.job.now c.args.activity c.as_slice-edges.result.now c.place_from-place.result c.as_slice-edges.ensures c.place_from-place.ensures.place c.if-place-edges.true

pub returns : goal.returns
returns c =
    left_is c.args.job.now c.args.activity c.as_slice-edges.result.now c.place_from-place.result c.index-edges-place.result c.as_slice-edges.ensures
    c.place_from-place.ensures.place c.place_from-place.ensures.within c.if-place-edges.false c.index-edges-place.is
