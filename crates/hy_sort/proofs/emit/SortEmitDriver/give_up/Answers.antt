use Rattle.std.proofs.Common.{rules, ◌≤◌, length, refl}
use Rattle.hy_sort.specs.Emit.{emit_fixed}
use Rattle.hy_sort.proofs.Emitting.{emit_gives_up}
use Rattle.hy_sort.proofs.emit.SortEmitDriver.give_up.Goals as goal

pub returns-clause-given_up : goal.returns-clause-given_up
returns-clause-given_up c =
    let d = c.args.self.now in
    let low : length d.rows.items ≤ c.len-self.result = search rules in
    emit_gives_up (emit_fixed d) refl d.keys d.rows.items d.sorted d.at c.len-self.result d.ended d.phase low
