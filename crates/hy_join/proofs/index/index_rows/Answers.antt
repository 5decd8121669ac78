use Rattle.std.proofs.Common.{[], ◌∙◌}
use Rattle.hy_join.specs.Keys.{is_under}
use Rattle.hy_join.proofs.KeyLaws.{item_there, places_next}
use Rattle.hy_join.proofs.index.index_rows.Goals as goal

pub loop-place-preserved : goal.loop-place-preserved
loop-place-preserved c q =
    let rows = c.args.rows.now in
    let low = c.loop-place-test.true in
    let row = c.as_row.ensures.row ∙ item_there rows c.loop-place.place c.index-rows-place.result [] low c.index-rows-place.is in
    places_next (is_under c.args.columns.now q) c.loop-place.place rows c.as_row.result _ _ low row (c.loop-place.invariant q) (c.in_ok-put_row.ensures q)
