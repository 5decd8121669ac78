use Rattle.std.proofs.Common.{refl}
use Rattle.hy_group.proofs.BuildLaws.{build_new}
use Rattle.hy_group.proofs.build.GroupBuild.new.Goals as goal

pub returns-clause-new : goal.returns-clause-new
returns-clause-new g c n scanned handed = build_new _ refl c.args.arg.now _ c.new.result c.new-2.result c.new.ensures c.new-2.ensures
