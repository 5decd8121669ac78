use Rattle.hy_join.proofs.BuildLaws.{build_fed}
use Rattle.hy_join.proofs.build.JoinBuildDriver.feed.Goals as goal

pub returns-clause-told : goal.returns-clause-told
returns-clause-told g c values are is = build_fed c.args.self.now.kept c.feed.new.self _ (c.args.input, values) c.feed.result c.feed.ensures.inputs (c.feed.ensures.told values are is)
