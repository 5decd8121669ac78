use Rattle.std.proofs.Common.{refl}
use Rattle.hy_driver.specs.Keep.{keep_fixed}
use Rattle.hy_driver.proofs.Forms.{ends_one}
use Rattle.hy_driver.proofs.Keeping.{keep_stays}
use Rattle.hy_driver.proofs.keep.KeepRowsDriver.end.Goals as goal

pub returns-clause-told : goal.returns-clause-told
returns-clause-told c = let d = c.args.self.now in keep_stays (keep_fixed d) refl d.rows d.ended _ d.phase d.phase (ends_one d.ended)
