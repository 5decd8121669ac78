use Rattle.std.proofs.Common.{[], ap}
use Rattle.hy_stream.specs.Source.{one_fixed, one_row}
use Rattle.hy_stream.proofs.SourceLaws.{source_ends}
use Rattle.hy_stream.proofs.source.OneDriver.next.Goals as goal

pub returns-then-self-2-clause-told : goal.returns-then-self-2-clause-told
returns-then-self-2-clause-told c =
    let d = c.args.self.now in
    source_ends (one_fixed d) d.ended (one_row d.gives) (one_row d.gives) [] d.phase (ap one_row c.if-self.false) (ap one_row c.if-self.false) c.if-self-2.true c.requires.going
