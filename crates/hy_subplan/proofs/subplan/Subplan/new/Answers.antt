use Rattle.std.proofs.Common.{false, []}
use Rattle.hy_subplan.proofs.SubplanLaws.{subplan_new}
use Rattle.hy_subplan.proofs.subplan.Subplan.new.Goals as goal

pub returns-clause-new : goal.returns-clause-new
returns-clause-new c own n scanned handed = subplan_new _ c.args.nested c.requires.sound.root false []
