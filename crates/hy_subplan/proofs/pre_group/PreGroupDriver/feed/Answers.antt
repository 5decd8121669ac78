use Rattle.std.proofs.Common.{rules, refl}
use Rattle.hy_subplan.specs.PreGroup.{pre_fixed}
use Rattle.hy_subplan.proofs.SubplanLaws.{holds_none}
use Rattle.hy_subplan.proofs.StretchLaws.{alone_fits, breaks_some, made_few, made_put, push_fits, stretch_fits, told_break, told_on, told_row}
use Rattle.hy_subplan.proofs.PreLaws.{pre_breaks, pre_goes_on}
use Rattle.hy_subplan.proofs.pre_group.PreGroupDriver.feed.Goals as goal

pub invariant_of-self-then-branch-clause-fit : goal.invariant_of-self-then-branch-clause-fit
invariant_of-self-then-branch-clause-fit c =
    let d = c.args.self.now in
    push_fits d.width d.rows c.push.new.self c.args.row c.in_ok-values.values d.fit (search rules) (search rules) c.requires.width

pub returns-then-branch-clause-told : goal.returns-then-branch-clause-told
returns-then-branch-clause-told c values are is =
    let d = c.args.self.now in
    pre_goes_on (pre_fixed d) d.keys d.nested d.root refl d.ended d.holds d.row (holds_none d.holds d.phase c.requires.hungry d.works) d.rows d.phase c.args._input values c.in_ok-values.values c.args.row
    c.requires.to_come c.requires.width are is (search rules) c.push.new.self (told_on d.keys c.as_slice-keys.result.now d.rows c.as_slice.result.now c.in_ok-values.values (search rules) (search rules) (search rules)) (search rules)

pub stretch_row-requires-clause-fits : goal.stretch_row-requires-clause-fits
stretch_row-requires-clause-fits c = let d = c.args.self.now in stretch_fits d.nested d.width d.rows c.as_slice-2.result.now d.root d.each (search rules) d.fit

pub put_row-requires : goal.put_row-requires
put_row-requires c =
    let d = c.args.self.now in
    record { few = made_few d.nested d.width d.arity d.keys c.as_slice-keys.result.now c.in_ok-made.made c.as_slice-3.result.now d.rows c.as_slice-2.result.now c.in_ok-made.ensures.wide (search rules) (search rules) d.fit d.behind d.few (search rules) }

pub invariant_of-self-2-clause-fit : goal.invariant_of-self-2-clause-fit
invariant_of-self-2-clause-fit c = let d = c.args.self.now in alone_fits d.width _ c.args.row c.in_ok-values.values (search rules) (search rules) c.requires.width

pub invariant_of-self-2-clause-wide : goal.invariant_of-self-2-clause-wide
invariant_of-self-2-clause-wide c held =
    let d = c.args.self.now in
    made_put d.nested d.width d.arity d.keys c.as_slice-keys.result.now c.in_ok-made.made c.as_slice-3.result.now c.put_row.new.out d.rows c.as_slice-2.result.now c.in_ok-made.ensures.wide (search rules) (search rules) d.fit d.behind (search rules) (search rules)

pub returns-clause-told : goal.returns-clause-told
returns-clause-told c values are is =
    let d = c.args.self.now in
    pre_breaks (pre_fixed d) d.keys d.nested d.root refl d.ended d.holds d.row (holds_none d.holds d.phase c.requires.hungry d.works) d.rows d.phase c.args._input values c.in_ok-values.values c.args.row
    c.requires.to_come c.requires.width are is (search rules) _ c.in_ok-made.made c.put_row.new.out (told_break d.keys c.as_slice-keys.result.now d.rows c.as_slice.result.now c.in_ok-values.values (search rules) (search rules) (search rules))
    (told_row d.nested d.keys c.as_slice-keys.result.now d.rows c.as_slice-2.result.now c.in_ok-made.made (search rules) (search rules) c.in_ok-made.ensures.given) (search rules) (search rules)
