use Rattle.std.proofs.Common.{refl}
use Rattle.hy_group.proofs.EmitLaws.{emit_new}
use Rattle.hy_group.proofs.emit.GroupEmit.new.Goals as goal

pub returns-clause-new : goal.returns-clause-new
returns-clause-new g c n scanned = emit_new _ refl c.args.shape.width c.args.arg.now c.args.handed.rows _ c.new.result c.new.ensures
