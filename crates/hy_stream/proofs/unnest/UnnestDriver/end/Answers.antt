use Rattle.hy_driver.specs.Rows.{values_of}
use Rattle.hy_stream.specs.Unnest.{unnest_fixed}
use Rattle.hy_stream.proofs.UnnestLaws.{unnest_stays}
use Rattle.hy_stream.proofs.unnest.UnnestDriver.end.Goals as goal

pub returns-clause-told : goal.returns-clause-told
returns-clause-told c = let d = c.args.self.now in unnest_stays (unnest_fixed d) d.generator d.ended (values_of d.row) d.items d.at d.phase
