use Rattle.std.proofs.Common.{sym, ap, subst, ◌∙◌, ◌∷◌, [], ◌++◌, List, take, ◌+◌}
use Rattle.std.specs.List.{Contains}
use Rattle.al_plain.specs.Rows.{Cells, AreDistinct}
use Rattle.al_plain.proofs.KeptLaws.{keeps_same, keeps_new}
use Rattle.al_plain.proofs.distinct.distinct_rows.Goals as goal
use Rattle.al_plain.proofs.distinct.distinct_rows.Goals.{then-not-is_among+in_ok-copy+in_ok-push, else-not-is_among}

pub loop-row-preserved : goal.loop-row-preserved
loop-row-preserved c = elim c.if-not-is_among.branch [
  | then-not-is_among+in_ok-copy+in_ok-push w ↦
      let none : Contains c.loop-row.kept c.row-item.result → ⊥ = λ i. let there = c.is_among.ensures.1 (subst (λ (ks : List Cells). Contains ks c.row-item.result) (sym c.as_slice.ensures) i) in cc in
      let grown = w.kept-is ∙ w.in_ok-push.ensures.ok ∙ ap (λ (x : Cells). c.loop-row.kept ++ x ∷ []) w.in_ok-copy.ensures in
      subst (λ (ks : List Cells). AreDistinct (take (c.loop-row.row-index + 1) c.args.rows.now) ks) (sym grown) (keeps_new c.args.rows.now c.loop-row.kept c.loop-row.row-index c.row-item.result c.loop-row-test.true c.row-item.is c.loop-row.invariant none)
  | else-not-is_among w ↦
      let there : Contains c.loop-row.kept c.row-item.result = subst (λ (ks : List Cells). Contains ks c.row-item.result) c.as_slice.ensures (c.is_among.ensures.0 w.if-not-is_among.false) in
      subst (λ (ks : List Cells). AreDistinct (take (c.loop-row.row-index + 1) c.args.rows.now) ks) (sym w.kept-is) (keeps_same c.args.rows.now c.loop-row.kept c.loop-row.row-index c.row-item.result c.loop-row-test.true c.row-item.is c.loop-row.invariant there)
]
