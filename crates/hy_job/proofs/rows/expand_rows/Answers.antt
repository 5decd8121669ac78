use Rattle.std.proofs.Common.{length}
use Rattle.hy_job.specs.Columns.{Row}
use Rattle.hy_job.specs.Sound.{AreSound, item_exprs}
use Rattle.hy_job.proofs.RowLaws.{at_item}
use Rattle.hy_job.proofs.rows.expand_rows.Goals as goal

pub expanded-requires : goal.expanded-requires
expanded-requires c =
    at_item (λ (row : Row). AreSound (length row) (item_exprs c.args.g.now)) c.args.rows.now c.loop-row.row-index c.row-item.result c.loop-row-test.true c.row-item.is c.requires
