use Rattle.std.proofs.Common.{◌≡◌, ◌≤◌, [], length, get_or, sym, ap, subst, ◌∙◌}
use Rattle.std.proofs.lemmas.List.{length-take-le}
use Rattle.indexmap.proofs.MapLemmas.{OnOk-map}
use Rattle.hy_driver.specs.Rows.{values_of}
use Rattle.hy_group.specs.Joining.{kinds, kinds_of}
use Rattle.hy_group.proofs.GiveLaws.{key_fits, keyed_added, same_item}
use Rattle.hy_group.proofs.emit.join_row.Goals as goal

pub slice_bounds-key-end : goal.slice_bounds-key-end
slice_bounds-key-end c =
    let row = c.index-rows-at.is ∙ same_item c.args.rows.now c.args.at c.index-rows-at.result [] c.requires.within in
    let low = subst (λ n. n ≤ length (get_or c.args.rows.now c.args.at [])) (sym c.len.ensures) c.requires.keyed in
    sym (length-take-le c.len.result c.as_slice.result.now (key_fits (get_or c.args.rows.now c.args.at []) c.in_ok-values.values c.as_slice.result.now c.len.result c.as_slice.ensures (c.in_ok-values.ensures ∙ ap values_of (c.as_row.ensures.row ∙ row)) low))

pub returns : goal.returns
returns c =
    let row = c.index-rows-at.is ∙ same_item c.args.rows.now c.args.at c.index-rows-at.result [] c.requires.within in
    record {
      added = OnOk-map c.add.result _ _
          (λ added. keyed_added c.args.arg.now (λ states. kinds states ≡ kinds_of c.args.arg.now) (get_or c.args.rows.now c.args.at []) c.in_ok-values.values c.as_slice.result.now c.len.result c.args.groups.now c.add.new.self
          c.as_slice.ensures (c.in_ok-values.ensures ∙ ap values_of (c.as_row.ensures.row ∙ row)) c.len.ensures c.requires.keyed added)
          c.add.ensures.added;
    }
