use Rattle.std.proofs.Common.{refl}
use Rattle.hy_driver.specs.Pass.{pass_fixed}
use Rattle.hy_driver.proofs.Forms.{ends_one}
use Rattle.hy_driver.proofs.Passing.{pass_stays}
use Rattle.hy_driver.proofs.pass.PassRowsDriver.end.Goals as goal

pub returns-clause-told : goal.returns-clause-told
returns-clause-told c = let d = c.args.self.now in pass_stays (pass_fixed d) refl d.row d.holds d.ended _ d.phase d.phase (ends_one d.ended)
