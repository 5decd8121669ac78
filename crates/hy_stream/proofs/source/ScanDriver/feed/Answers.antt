use Rattle.std.proofs.Common.{refl}
use Rattle.hy_stream.specs.Places.{own_of}
use Rattle.hy_stream.specs.Source.{scan_fixed}
use Rattle.hy_stream.proofs.SourceLaws.{source_fed}
use Rattle.hy_stream.proofs.source.ScanDriver.feed.Goals as goal

pub returns-clause-told : goal.returns-clause-told
returns-clause-told c values are is =
    let d = c.args.self.now in
    source_fed (scan_fixed d) d.ended (own_of d.settings.partitions d.partition d.at d.rows.now) d.phase c.args._input values _ refl c.requires.to_come c.requires.width are is
