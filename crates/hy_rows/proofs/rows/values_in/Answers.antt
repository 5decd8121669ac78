use Rattle.hy_rows.proofs.RowLaws.{values_first}
use Rattle.hy_rows.proofs.rows.values_in.Goals as goal

pub loop-j-init : goal.loop-j-init
loop-j-init c = values_first c.args.row.now c.new-values.result c.new-values.ensures
