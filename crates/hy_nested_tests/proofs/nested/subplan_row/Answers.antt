use Rattle.std.proofs.Common.{◌≡◌, ◌<◌, List, length, get_or, sym, subst}
use Rattle.hy_job.specs.declared.job.Activity.{Activity}
use Rattle.hy_job.specs.Sound.{SoundNested}
use Rattle.hy_nested_tests.proofs.Subplans.{subplan_sound}
use Rattle.hy_nested_tests.proofs.nested.subplan_row.Goals as goal

pub row_over-requires : goal.row_over-requires
row_over-requires c =
    let i = c.loop-activity.activity-index in
    let a = c.activity-item.result in
    let low : i < length c.args.job.now.activities = subst (λ (xs : List Activity). i < length xs) c.as_slice-activity-items.ensures c.loop-activity-test.true in
    let at : a ≡ get_or c.args.job.now.activities i a = subst (λ (xs : List Activity). a ≡ get_or xs i a) c.as_slice-activity-items.ensures c.activity-item.is in
    subst (SoundNested c.in-Subplan.nested) (sym c.saturating_sub-width.ensures)
    (subplan_sound c.args.job.now c.requires i a c.in-Subplan.nested c.made.result low at c.in-Subplan.is c.made.ensures)
