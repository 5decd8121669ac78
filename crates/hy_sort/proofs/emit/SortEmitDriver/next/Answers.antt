use Rattle.std.proofs.Common.{◌≡◌, ◌<◌, ◌≤◌, rules, true, false, List, [], map, length, refl, subst}
use Rattle.std.specs.List.Sorted.{IsSorted}
use Rattle.al_value.specs.declared.settings.SortKey.{SortKey}
use Rattle.hy_driver.specs.Rows.{values_of}
use Rattle.hy_job.specs.Columns.{keys_cmp}
use Rattle.hy_sort.specs.Emit.{emit_fixed}
use Rattle.hy_sort.proofs.Emitting.{emit_asks, emit_ends, emit_fails, emit_gives, emit_sorts}
use Rattle.hy_sort.proofs.emit.SortEmitDriver.next.Goals as goal

pub returns-in_err-sort_rows-clause-told : goal.returns-in_err-sort_rows-clause-told
returns-in_err-sort_rows-clause-told c =
    let d = c.args.self.now in
    let unsorted : d.sorted ≡ false = search rules in
    let turned = emit_fails (emit_fixed d) refl d.keys d.rows.items c.sort_rows.new.rows.items d.sorted d.at d.ended d.phase unsorted (d.first unsorted) c.sort_rows.ensures.moved in
    search (rules, turned)

pub returns-then-not-self-clause-told : goal.returns-then-not-self-clause-told
returns-then-not-self-clause-told c =
    let d = c.args.self.now in
    let unsorted : d.sorted ≡ false = search rules in
    emit_sorts (emit_fixed d) refl d.keys d.rows.items c.sort_rows.new.rows.items [] d.sorted d.at d.ended d.phase unsorted (d.first unsorted) (d.ready unsorted) c.sort_rows.ensures.moved
    (subst (λ (keys : List SortKey). IsSorted (keys_cmp keys) (map values_of c.sort_rows.new.rows.items)) c.as_slice.ensures c.in_ok-sort_rows.ensures.sorted)

pub returns-then-self-len-clause-told : goal.returns-then-self-len-clause-told
returns-then-self-len-clause-told c =
    let d = c.args.self.now in
    let sorted : d.sorted ≡ true = search rules in
    let low : d.at < length d.rows.items = search rules in
    emit_gives (emit_fixed d) refl d.keys d.rows.items c.index.result.now _ d.sorted d.at d.ended d.phase sorted low (search rules) (d.works low) c.as_row.ensures.fields d.fit (search rules)

pub returns-then-self-clause-told : goal.returns-then-self-clause-told
returns-then-self-clause-told c =
    let d = c.args.self.now in
    let sorted : d.sorted ≡ true = search rules in
    let low : length d.rows.items ≤ d.at = search rules in
    emit_ends (emit_fixed d) refl d.keys d.rows.items [] d.sorted d.at d.ended d.phase sorted low c.if-self.true c.requires.going

pub returns-clause-told : goal.returns-clause-told
returns-clause-told c =
    let d = c.args.self.now in
    let sorted : d.sorted ≡ true = search rules in
    let low : length d.rows.items ≤ d.at = search rules in
    emit_asks (emit_fixed d) refl d.keys d.rows.items [] d.sorted d.at d.ended d.phase sorted low c.if-self.false c.requires.going d.over
