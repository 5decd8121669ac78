use Rattle.std.proofs.Common.{nat_eq, true, refl}
use Rattle.hy_job.specs.declared.job.Kind.TheVariants as K
use Rattle.hy_job.specs.Drivers.{own_rows}
use Rattle.hy_stream.specs.Source.{one_row}
use Rattle.hy_stream.proofs.SourceLaws.{one_owed, source_new}
use Rattle.hy_stream.proofs.source.One.new.Goals as goal

pub returns-clause-new : goal.returns-clause-new
returns-clause-new c arity n scanned handed =
    let j = c.args.partition in source_new _ true (one_row (nat_eq j 0)) (own_rows K.One n j scanned) (one_owed (nat_eq j 0) n j scanned refl)
