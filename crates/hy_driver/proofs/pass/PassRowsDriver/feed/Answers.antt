use Rattle.std.proofs.Common.{rules, refl}
use Rattle.hy_driver.specs.Pass.{pass_fixed}
use Rattle.hy_driver.proofs.Passing.{pass_fed}
use Rattle.hy_driver.proofs.pass.PassRowsDriver.feed.Goals as goal

pub returns-clause-told : goal.returns-clause-told
returns-clause-told c values are is =
    let d = c.args.self.now in
    pass_fed (pass_fixed d) refl d.row _ d.holds d.ended d.phase c.args._input values c.requires.hungry d.works c.requires.to_come (search rules) are (search rules)
