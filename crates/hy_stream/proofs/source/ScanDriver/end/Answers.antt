use Rattle.hy_stream.specs.Places.{own_of}
use Rattle.hy_stream.specs.Source.{scan_fixed}
use Rattle.hy_stream.proofs.SourceLaws.{source_stays}
use Rattle.hy_stream.proofs.source.ScanDriver.end.Goals as goal

pub returns-clause-told : goal.returns-clause-told
returns-clause-told c = let d = c.args.self.now in source_stays (scan_fixed d) d.ended (own_of d.settings.partitions d.partition d.at d.rows.now) d.phase
