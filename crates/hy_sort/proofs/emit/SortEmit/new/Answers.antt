use Rattle.hy_sort.proofs.Emitting.{emit_new}
use Rattle.hy_sort.proofs.emit.SortEmit.new.Goals as goal

pub returns-clause-new : goal.returns-clause-new
returns-clause-new c n scanned = emit_new _ c.args.keys _ c.args.handed.rows c.into_vec.ensures
