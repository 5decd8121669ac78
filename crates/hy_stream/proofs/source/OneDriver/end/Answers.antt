use Rattle.hy_stream.specs.Source.{one_fixed, one_row}
use Rattle.hy_stream.proofs.SourceLaws.{source_stays}
use Rattle.hy_stream.proofs.source.OneDriver.end.Goals as goal

pub returns-clause-told : goal.returns-clause-told
returns-clause-told c = let d = c.args.self.now in source_stays (one_fixed d) d.ended (one_row d.gives) d.phase
