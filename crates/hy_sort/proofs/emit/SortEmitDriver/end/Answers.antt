use Rattle.std.proofs.Common.{refl}
use Rattle.hy_sort.specs.Emit.{emit_fixed}
use Rattle.hy_sort.proofs.Emitting.{emit_stays}
use Rattle.hy_sort.proofs.emit.SortEmitDriver.end.Goals as goal

pub returns-clause-told : goal.returns-clause-told
returns-clause-told c = let d = c.args.self.now in emit_stays (emit_fixed d) refl d.keys d.rows.items d.sorted d.at d.ended d.phase
