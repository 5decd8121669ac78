use Rattle.std.proofs.Common.{rules}
use Rattle.hy_subplan.specs.Subplan.{subplan_fixed}
use Rattle.hy_subplan.proofs.SubplanLaws.{subplan_asks, subplan_ends, subplan_gives}
use Rattle.hy_subplan.proofs.subplan.SubplanDriver.next.Goals as goal

pub returns-then-self-clause-told : goal.returns-then-self-clause-told
returns-then-self-clause-told c =
    let d = c.args.self.now in
    subplan_gives (subplan_fixed d) d.nested d.root d.ended d.holds d.row _ d.phase c.if-self.true d.works (search rules) d.wide (search rules)

pub returns-then-self-2-clause-told : goal.returns-then-self-2-clause-told
returns-then-self-2-clause-told c =
    let d = c.args.self.now in
    subplan_ends (subplan_fixed d) d.nested d.root d.ended d.holds d.row d.row d.phase c.if-self.false c.if-self-2.true c.requires.going

pub returns-clause-told : goal.returns-clause-told
returns-clause-told c =
    let d = c.args.self.now in
    subplan_asks (subplan_fixed d) d.nested d.root d.ended d.holds d.row d.row d.phase c.if-self.false c.if-self-2.false c.requires.going d.over
