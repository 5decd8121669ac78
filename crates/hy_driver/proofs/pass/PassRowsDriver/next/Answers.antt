use Rattle.std.proofs.Common.{rules, refl}
use Rattle.hy_driver.specs.Pass.{pass_fixed}
use Rattle.hy_driver.proofs.Passing.{pass_gives, pass_asks, pass_ends}
use Rattle.hy_driver.proofs.pass.PassRowsDriver.next.Goals as goal

pub returns-then-self-clause-told : goal.returns-then-self-clause-told
returns-then-self-clause-told c = let d = c.args.self.now in pass_gives (pass_fixed d) refl d.row _ d.holds d.ended d.phase c.if-self.true d.works (search rules) d.wide (search rules)

pub returns-then-self-2-clause-told : goal.returns-then-self-2-clause-told
returns-then-self-2-clause-told c = let d = c.args.self.now in pass_ends (pass_fixed d) refl d.row d.row d.holds d.ended d.phase c.if-self.false c.if-self-2.true c.requires.going

pub returns-clause-told : goal.returns-clause-told
returns-clause-told c = let d = c.args.self.now in pass_asks (pass_fixed d) refl d.row d.row d.holds d.ended d.phase c.if-self-2.false c.requires.going d.over
