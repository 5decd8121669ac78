use Rattle.hy_join.proofs.BuildLaws.{build_next}
use Rattle.hy_join.proofs.build.JoinBuildDriver.next.Goals as goal

pub returns-clause-told : goal.returns-clause-told
returns-clause-told g c = build_next c.args.self.now.kept c.next.new.self _ c.next.new._out c.next.result c.next.ensures.inputs c.next.ensures.told
