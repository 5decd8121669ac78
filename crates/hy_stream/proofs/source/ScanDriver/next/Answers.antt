use Rattle.std.proofs.Common.{rules, ◌≤◌, [], length, sym, ◌∙◌}
use Rattle.hy_stream.specs.Places.{own_of}
use Rattle.hy_stream.specs.Source.{scan_fixed}
use Rattle.hy_stream.proofs.SourceLaws.{none_skipped, own_none, scan_gives, source_ends}
use Rattle.hy_stream.proofs.source.ScanDriver.next.Goals as goal

pub returns-then-at-self-clause-told : goal.returns-then-at-self-clause-told
returns-then-at-self-clause-told c =
    let d = c.args.self.now in
    let place = c.next_place-at.ensures in
    let low = c.if-at-self.true in
    scan_gives (scan_fixed d) d.settings.partitions d.partition d.rows.now d.ended d.at c.next_place-at.result c.index-self-at.result c.put_row.new.out d.phase
    place.skipped low (place.found low) c.index-self-at.is (c.in_ok-put_row.ensures.values ∙ c.as_slice.ensures ∙ sym c.index-self-at.is) c.as_row.ensures.fields (search rules) (search rules)

pub returns-then-self-clause-told : goal.returns-then-self-clause-told
returns-then-self-clause-told c =
    let d = c.args.self.now in
    let at = c.next_place-at.result in
    let low : length d.rows.now ≤ at = search rules in
    source_ends (scan_fixed d) d.ended (own_of d.settings.partitions d.partition d.at d.rows.now) (own_of d.settings.partitions d.partition at d.rows.now) [] d.phase
    (none_skipped (scan_fixed d) d.settings.partitions d.partition d.rows.now d.at at c.next_place-at.ensures.skipped low) (own_none d.settings.partitions d.partition at d.rows.now low) c.if-self.true c.requires.going
