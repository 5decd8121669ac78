use Rattle.std.proofs.Common.{ℕ, List, IfOk, ◌≡◌, ap, subst, sym, ◌∙◌}
use Rattle.hy_places.specs.Places.{by_first, inboxes_over}
use Rattle.hy_places.proofs.Steps.{inboxes_are, unfed_is}
use Rattle.hy_places.proofs.boxes.inboxes.Goals as goal

pub returns-then-place-edges : goal.returns-then-place-edges
returns-then-place-edges c =
    let none = unfed_is c.args.job.now c.args.activity c.args.input c.as_slice-edges.result.now c.place_into-place.result c.as_slice-edges.ensures c.place_into-place.ensures.place c.if-place-edges.true in
    c.new.ensures ∙ sym (ap (by_first (λ e. inboxes_over c.args.job.now c.args.stage.now e c.args.partition)) none)

pub returns : goal.returns
returns c =
    subst (λ (xs : List ℕ). IfOk c.numbers.result (λ (boxes : List ℕ). boxes ≡ xs))
    (sym (inboxes_are c.args.job.now c.args.stage.now c.args.activity c.args.input c.args.partition c.as_slice-edges.result.now c.place_into-place.result c.first_box.result c.first_inbox.result c.inboxes_count.result
    c.index-edges-place.result c.requires.sound c.requires.activity c.requires.partition c.as_slice-edges.ensures c.place_into-place.ensures.place c.place_into-place.ensures.within c.if-place-edges.false
    c.index-edges-place.is c.first_box.ensures.first c.first_inbox.ensures c.inboxes_count.ensures))
    c.numbers.ensures
