use Rattle.std.proofs.Common.{refl, []}
use Rattle.hy_sort.specs.Build.{build_fixed}
use Rattle.hy_sort.proofs.Building.{build_asks, build_ends}
use Rattle.hy_sort.proofs.build.SortBuildDriver.next.Goals as goal

pub returns-then-self-clause-told : goal.returns-then-self-clause-told
returns-then-self-clause-told c = let d = c.args.self.now in build_ends (build_fixed d) refl d.rows [] d.ended d.phase c.if-self.true c.requires.going

pub returns-clause-told : goal.returns-clause-told
returns-clause-told c = let d = c.args.self.now in build_asks (build_fixed d) refl d.rows [] d.ended d.phase c.if-self.false c.requires.going d.over
