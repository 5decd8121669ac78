use Rattle.std.proofs.Common.{refl}
use Rattle.hy_stream.specs.Source.{one_fixed, one_row}
use Rattle.hy_stream.proofs.SourceLaws.{source_fed}
use Rattle.hy_stream.proofs.source.OneDriver.feed.Goals as goal

pub returns-clause-told : goal.returns-clause-told
returns-clause-told c values are is =
    let d = c.args.self.now in source_fed (one_fixed d) d.ended (one_row d.gives) d.phase c.args._input values _ refl c.requires.to_come c.requires.width are is
