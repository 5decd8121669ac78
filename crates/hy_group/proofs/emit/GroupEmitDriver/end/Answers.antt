use Rattle.std.proofs.Common.{refl}
use Rattle.hy_group.proofs.EmitLaws.{emit_stays}
use Rattle.hy_group.proofs.emit.GroupEmitDriver.end.Goals as goal

pub returns-clause-told : goal.returns-clause-told
returns-clause-told g c = let d = c.args.self.now in emit_stays _ refl d.shape.width d.arg.now d.rows _ d.at d.groups d.ended d.phase
