use Rattle.std.proofs.Common.{refl}
use Rattle.hy_sort.specs.Build.{build_fixed}
use Rattle.hy_sort.proofs.Building.{build_hands}
use Rattle.hy_sort.proofs.build.SortBuildHandsOn.hand_on.Goals as goal

pub returns-clause-handed : goal.returns-clause-handed
returns-clause-handed g c = let d = c.args.self in build_hands (build_fixed d) refl d.rows d.ended d.phase _ d.fit d.none refl c.none.ensures.1 c.none.ensures.2
