use Rattle.std.proofs.Common.{◌∷◌, [], ◌++◌, length, sym, subst, ◌∙◌}
use Rattle.std.specs.List.{All}
use Rattle.std.proofs.lemmas.List.{map-append}
use Rattle.std.proofs.lemmas.List.Elements.{All-head, All-tail}
use Rattle.hy_job.specs.Columns.{Row, assigned}
use Rattle.hy_job.specs.Sound.{AreSound}
use Rattle.hy_job.proofs.rows.assign_rows.Goals as goal

pub assigned-requires : goal.assigned-requires
assigned-requires c =
    let P = λ (row : Row). AreSound (length row) c.args.made.now in
    All-head P c.in-Some.row c.next.new.self.rest.items (subst (All P) c.in-Some.ensures.steps.0 c.loop-row.invariant.fits)

pub loop-row-preserved : goal.loop-row-preserved
loop-row-preserved c =
    let P = λ (row : Row). AreSound (length row) c.args.made.now in
    record {
      made = c.in_ok-push.ensures.ok ∙ (λ i. c.loop-row.invariant.made i ++ c.in_ok-assigned.ensures i ∷ []) ∙ sym (map-append (assigned c.args.made.now) c.loop-row.yielded (c.in-Some.row ∷ []));
      fits = All-tail P c.in-Some.row c.next.new.self.rest.items (subst (All P) c.in-Some.ensures.steps.0 c.loop-row.invariant.fits);
    }
