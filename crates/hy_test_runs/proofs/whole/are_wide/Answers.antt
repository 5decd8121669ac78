use Rattle.std.proofs.Common.{◌≡◌, length, sym, subst, ◌∙◌}
use Rattle.std.specs.List.{All}
use Rattle.std.proofs.lemmas.List.{take_all}
use Rattle.std.proofs.lemmas.List.Elements.{All-more}
use Rattle.hy_frame.specs.Row.{Fields}
use Rattle.hy_test_runs.proofs.whole.are_wide.Goals as goal

pub loop-row-preserved : goal.loop-row-preserved
loop-row-preserved c =
    let P = λ (row : Fields). length row ≡ c.args.width in
    All-more P c.args.rows.now c.loop-row.row-index c.row-item.result c.loop-row-test.true c.loop-row.invariant (subst P c.row-item.is (sym c.len.ensures ∙ c.if-len-width.false))

pub returns : goal.returns
returns c = λ e.
    let P = λ (row : Fields). length row ≡ c.args.width in
    subst (All P) (take_all c.loop-row.row-index c.args.rows.now c.loop-row-test.false) c.loop-row.invariant
