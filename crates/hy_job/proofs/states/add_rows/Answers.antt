use Rattle.std.proofs.Common.{length, sym, subst}
use Rattle.hy_job.specs.Columns.{Row}
use Rattle.hy_job.specs.Sound.{AreSoundAggs}
use Rattle.hy_job.proofs.RowLaws.{at_item}
use Rattle.hy_job.proofs.states.add_rows.Goals as goal

pub add_row-requires-clause-sound : goal.add_row-requires-clause-sound
add_row-requires-clause-sound c =
    subst (λ (row : Row). AreSoundAggs (length row) c.args.made.now) (sym c.as_slice.ensures)
    (at_item (λ (row : Row). AreSoundAggs (length row) c.args.made.now) c.args.more.now c.loop-row.row-index c.row-item.result c.loop-row-test.true c.row-item.is c.requires.sound)
