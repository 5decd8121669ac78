use Rattle.std.proofs.Common.{◌≡◌, true, false, ◌∷◌, [], ◌++◌, length, ap, sym, subst, ◌∙◌}
use Rattle.std.specs.List.{All}
use Rattle.std.proofs.lemmas.List.Elements.{All-tail}
use Rattle.al_func.specs.Rex.{IsSound}
use Rattle.hy_job.specs.Columns.{Row, holds}
use Rattle.hy_job.proofs.RowLaws.{filter_takes, filter_leaves}
use Rattle.hy_job.proofs.rows.select_rows.Goals as goal

pub loop-row-preserved : goal.loop-row-preserved
loop-row-preserved c =
    let P = λ (row : Row). IsSound (length row) c.args.cond.now in
    let fails : holds c.args.cond.now c.in-Some.row ≡ false = ap (holds c.args.cond.now) (sym c.as_slice.ensures) ∙ sym c.in_ok-holds.ensures ∙ c.if-branch.false in
    record {
      made = c.loop-row.invariant.made ∙ sym (filter_leaves (holds c.args.cond.now) c.loop-row.yielded c.in-Some.row fails);
      fits = All-tail P c.in-Some.row c.next.new.self.rest.items (subst (All P) c.in-Some.ensures.steps.0 c.loop-row.invariant.fits);
    }

pub loop-row-preserved-in-Continue-branch-2 : goal.loop-row-preserved-in-Continue-branch-2
loop-row-preserved-in-Continue-branch-2 c =
    let P = λ (row : Row). IsSound (length row) c.args.cond.now in
    let passes : holds c.args.cond.now c.in-Some.row ≡ true = ap (holds c.args.cond.now) (sym c.as_slice.ensures) ∙ sym c.in_ok-holds.ensures ∙ c.if-branch.true in
    record {
      made = c.in_ok-push.ensures.ok ∙ ap (λ kept. kept ++ c.in-Some.row ∷ []) c.loop-row.invariant.made ∙ sym (filter_takes (holds c.args.cond.now) c.loop-row.yielded c.in-Some.row passes);
      fits = All-tail P c.in-Some.row c.next.new.self.rest.items (subst (All P) c.in-Some.ensures.steps.0 c.loop-row.invariant.fits);
    }
