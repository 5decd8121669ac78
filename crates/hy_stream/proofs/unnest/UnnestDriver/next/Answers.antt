use Rattle.std.proofs.Common.{rules, ◌≤◌, [], length}
use Rattle.hy_driver.specs.Rows.{values_of}
use Rattle.hy_stream.specs.Unnest.{unnest_fixed}
use Rattle.hy_stream.proofs.UnnestLaws.{unnest_asks, unnest_ends, unnest_gives}
use Rattle.hy_stream.proofs.unnest.UnnestDriver.next.Goals as goal

pub returns-then-self-len-clause-told : goal.returns-then-self-len-clause-told
returns-then-self-len-clause-told c =
    let d = c.args.self.now in
    unnest_gives (unnest_fixed d) d.generator d.ended (values_of d.row) d.items d.at d.phase c.index-as_slice-self.result c.put_longer.new.out (search rules) (search rules) d.works (search rules)
    c.as_row-then-self-len.ensures.fields (search rules)

pub returns-then-self-clause-told : goal.returns-then-self-clause-told
returns-then-self-clause-told c =
    let d = c.args.self.now in
    let low : length d.items ≤ d.at = search rules in
    unnest_ends (unnest_fixed d) d.generator d.ended (values_of d.row) d.items d.at d.phase [] low c.if-self.true c.requires.going

pub returns-clause-told : goal.returns-clause-told
returns-clause-told c =
    let d = c.args.self.now in
    let low : length d.items ≤ d.at = search rules in
    unnest_asks (unnest_fixed d) d.generator d.ended (values_of d.row) d.items d.at d.phase [] low c.if-self.false c.requires.going d.over
