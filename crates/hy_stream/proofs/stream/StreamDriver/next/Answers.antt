use Rattle.std.proofs.Common.{rules, sym, ◌∙◌}
use Rattle.hy_rows.specs.State.{two_ended}
use Rattle.hy_stream.specs.Stream.{stream_fixed}
use Rattle.hy_stream.proofs.StreamLaws.{stream_asks, stream_ends, stream_gives}
use Rattle.hy_stream.proofs.stream.StreamDriver.next.Goals as goal

pub returns-then-self-clause-told : goal.returns-then-self-clause-told
returns-then-self-clause-told c =
    let d = c.args.self.now in
    stream_gives (stream_fixed d) d.work d.window (two_ended d.ended d.right_ended) d.holds d.row _ d.phase c.if-self.true d.works (search rules) d.wide (search rules)

pub returns-then-over-clause-told : goal.returns-then-over-clause-told
returns-then-over-clause-told c =
    let d = c.args.self.now in
    stream_ends (stream_fixed d) d.work d.window d.ended d.right_ended d.holds d.row d.row d.phase c.if-self.false (sym c.both-over.ensures ∙ c.if-over.true) c.requires.going

pub returns-clause-told : goal.returns-clause-told
returns-clause-told c =
    let d = c.args.self.now in
    stream_asks (stream_fixed d) d.work d.window d.ended d.right_ended d.holds d.row d.row d.phase c.if-self.false (sym c.both-over.ensures ∙ c.if-over.false) c.requires.going d.left_over d.right_over
