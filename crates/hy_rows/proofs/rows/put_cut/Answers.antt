use Rattle.std.proofs.Common.{[]}
use Rattle.hy_rows.proofs.RowLaws.{cut_first}
use Rattle.hy_rows.proofs.rows.put_cut.Goals as goal

pub loop-j-init : goal.loop-j-init
loop-j-init c = cut_first c.clear.new.self c.args.columns.now [] c.clear.ensures
