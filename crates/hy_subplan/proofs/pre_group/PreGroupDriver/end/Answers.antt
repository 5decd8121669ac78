use Rattle.std.proofs.Common.{refl}
use Rattle.hy_subplan.specs.Held.{held_row}
use Rattle.hy_subplan.specs.PreGroup.{pre_fixed}
use Rattle.hy_subplan.proofs.PreLaws.{pre_stays}
use Rattle.hy_subplan.proofs.pre_group.PreGroupDriver.end.Goals as goal

pub returns-clause-told : goal.returns-clause-told
returns-clause-told c = let d = c.args.self.now in pre_stays (pre_fixed d) d.keys d.nested d.root refl d.ended (held_row d.holds d.row) d.rows d.phase
