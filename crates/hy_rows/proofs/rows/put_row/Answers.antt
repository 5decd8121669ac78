use Rattle.hy_rows.proofs.RowLaws.{put_first}
use Rattle.hy_rows.proofs.rows.put_row.Goals as goal

pub loop-v-init : goal.loop-v-init
loop-v-init c = put_first c.clear.new.self c.args.row.now c.clear.ensures
