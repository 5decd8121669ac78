use Rattle.std.proofs.Common.{refl, []}
use Rattle.hy_driver.specs.Keep.{keep_fixed}
use Rattle.hy_driver.proofs.Keeping.{keep_asks, keep_ends}
use Rattle.hy_driver.proofs.keep.KeepRowsDriver.next.Goals as goal

pub returns-then-self-clause-told : goal.returns-then-self-clause-told
returns-then-self-clause-told c = let d = c.args.self.now in keep_ends (keep_fixed d) refl d.rows [] d.ended d.phase c.if-self.true c.requires.going

pub returns-clause-told : goal.returns-clause-told
returns-clause-told c = let d = c.args.self.now in keep_asks (keep_fixed d) refl d.rows [] d.ended d.phase c.if-self.false c.requires.going d.over
