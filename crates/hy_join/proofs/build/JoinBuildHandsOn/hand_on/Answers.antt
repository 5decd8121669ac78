use Rattle.hy_join.proofs.BuildLaws.{build_hands}
use Rattle.hy_join.proofs.build.JoinBuildHandsOn.hand_on.Goals as goal

pub returns-clause-handed : goal.returns-clause-handed
returns-clause-handed g c = build_hands c.args.self.kept _ c.hand_on-handed.result.0 c.args.self.none c.hand_on-handed.ensures.handed
