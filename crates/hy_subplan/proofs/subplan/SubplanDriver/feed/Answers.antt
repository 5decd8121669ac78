use Rattle.std.proofs.Common.{rules, refl}
use Rattle.hy_subplan.specs.Subplan.{subplan_fixed}
use Rattle.hy_subplan.proofs.SubplanLaws.{holds_none, subplan_fed}
use Rattle.hy_subplan.proofs.subplan.SubplanDriver.feed.Goals as goal

pub returns-clause-told : goal.returns-clause-told
returns-clause-told c values are is =
    let d = c.args.self.now in
    subplan_fed (subplan_fixed d) d.nested d.root d.ended d.holds d.row c.put_row.new.out _ d.phase c.args._input values refl (holds_none d.holds d.phase c.requires.hungry d.works) c.requires.to_come c.requires.width are is (search rules)
