use Rattle.std.proofs.Common.{refl, false, []}
use Rattle.hy_subplan.proofs.PreLaws.{pre_new}
use Rattle.hy_subplan.proofs.pre_group.PreGroup.new.Goals as goal

pub returns-clause-new : goal.returns-clause-new
returns-clause-new c own n scanned handed = pre_new _ c.args.keys c.args.nested c.requires.sound.root refl false [] _ c.new.ensures
