use Rattle.hy_driver.proofs.Forms.{ends_one}
use Rattle.std.proofs.Common.{refl}
use Rattle.hy_group.proofs.BuildLaws.{build_stays}
use Rattle.hy_group.proofs.build.GroupBuildDriver.end.Goals as goal

pub returns-clause-told : goal.returns-clause-told
returns-clause-told g c = let d = c.args.self.now in build_stays _ refl d.arg.now _ d.groups d.rows d.ended _ d.phase d.phase (ends_one d.ended)
