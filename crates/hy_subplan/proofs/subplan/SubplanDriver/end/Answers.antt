use Rattle.hy_subplan.specs.Subplan.{subplan_fixed}
use Rattle.hy_subplan.proofs.SubplanLaws.{subplan_stays}
use Rattle.hy_subplan.proofs.subplan.SubplanDriver.end.Goals as goal

pub returns-clause-told : goal.returns-clause-told
returns-clause-told c = let d = c.args.self.now in subplan_stays (subplan_fixed d) d.nested d.root d.ended d.holds d.row d.phase
