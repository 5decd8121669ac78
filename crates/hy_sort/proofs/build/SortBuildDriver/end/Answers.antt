use Rattle.std.proofs.Common.{refl}
use Rattle.hy_driver.proofs.Forms.{ends_one}
use Rattle.hy_sort.specs.Build.{build_fixed}
use Rattle.hy_sort.proofs.Building.{build_closes}
use Rattle.hy_sort.proofs.build.SortBuildDriver.end.Goals as goal

pub returns-clause-told : goal.returns-clause-told
returns-clause-told c = let d = c.args.self.now in build_closes (build_fixed d) refl d.rows d.ended _ d.phase (ends_one d.ended)
