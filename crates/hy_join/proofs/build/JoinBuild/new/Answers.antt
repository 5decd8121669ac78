use Rattle.hy_join.proofs.BuildLaws.{build_new}
use Rattle.hy_join.proofs.build.JoinBuild.new.Goals as goal

pub returns-clause-new : goal.returns-clause-new
returns-clause-new g c n scanned handed = build_new c.new.result _ c.new.ensures.new (c.new.ensures.input 0)
