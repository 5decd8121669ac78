use Rattle.std.proofs.Common.{refl}
use Rattle.hy_driver.specs.Keep.{keep_fixed}
use Rattle.hy_driver.proofs.Keeping.{keep_hands}
use Rattle.hy_driver.proofs.keep.KeepRowsHandsOn.hand_on.Goals as goal

pub returns-clause-handed : goal.returns-clause-handed
returns-clause-handed g c = let d = c.args.self in keep_hands (keep_fixed d) refl d.rows d.ended d.phase _ d.fit d.none refl c.none.ensures.1 c.none.ensures.2
