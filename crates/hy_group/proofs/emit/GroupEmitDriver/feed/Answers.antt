use Rattle.std.proofs.Common.{refl}
use Rattle.hy_group.proofs.EmitLaws.{emit_fed}
use Rattle.hy_group.proofs.emit.GroupEmitDriver.feed.Goals as goal

pub returns-clause-told : goal.returns-clause-told
returns-clause-told g c values are is =
    let d = c.args.self.now in
    emit_fed _ refl d.shape.width d.arg.now d.rows _ d.at d.groups d.ended d.phase c.args._input values _ c.requires.to_come c.requires.width are is
