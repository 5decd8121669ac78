use Rattle.std.proofs.Common.{refl}
use Rattle.hy_sort.specs.Emit.{emit_fixed}
use Rattle.hy_sort.proofs.Emitting.{emit_fed}
use Rattle.hy_sort.proofs.emit.SortEmitDriver.feed.Goals as goal

pub returns-clause-told : goal.returns-clause-told
returns-clause-told c values are is =
    let d = c.args.self.now in
    emit_fed (emit_fixed d) refl d.keys d.rows.items d.sorted d.at d.ended d.phase c.args._input values _ c.requires.to_come c.requires.width are is
