use Rattle.std.proofs.Common.{refl}
use Rattle.hy_group.proofs.BuildLaws.{build_hands}
use Rattle.hy_group.proofs.build.GroupBuildHandsOn.hand_on.Goals as goal

pub returns-clause-handed : goal.returns-clause-handed
returns-clause-handed g c = let d = c.args.self in build_hands _ refl d.arg.now _ d.groups d.rows d.ended d.phase _ d.live d.fit d.none refl c.none.ensures.1 c.none.ensures.2
