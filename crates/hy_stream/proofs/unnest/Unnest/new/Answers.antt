use Rattle.std.proofs.Common.{false}
use Rattle.hy_stream.proofs.UnnestLaws.{unnest_new}
use Rattle.hy_stream.proofs.unnest.Unnest.new.Goals as goal

pub returns-clause-new : goal.returns-clause-new
returns-clause-new c arity n scanned handed = unnest_new _ c.args.generator false _ _ c.new-2.ensures
