use Rattle.std.proofs.Common.{true, refl}
use Rattle.hy_job.specs.Columns.{dealt}
use Rattle.hy_stream.specs.Places.{own_of}
use Rattle.hy_stream.proofs.SourceLaws.{source_new}
use Rattle.hy_stream.proofs.source.Scan.new.Goals as goal

pub returns-clause-new : goal.returns-clause-new
returns-clause-new c set handed =
    let n = c.args.settings.partitions in
    source_new _ true (own_of n c.args.partition 0 c.args.rows.now) (dealt n c.args.partition c.args.rows.now) refl
