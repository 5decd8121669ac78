use Rattle.hy_join.proofs.BuildLaws.{build_ended}
use Rattle.hy_join.proofs.build.JoinBuildDriver.end.Goals as goal

pub returns-clause-told : goal.returns-clause-told
returns-clause-told g c = build_ended c.args.self.now.kept c.end.new.self _ c.args.input c.end.result c.end.ensures.inputs c.end.ensures.told
