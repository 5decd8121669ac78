use Rattle.std.proofs.Common.{◌≡◌, rules, true, false, [], refl}
use Rattle.hy_subplan.specs.PreGroup.{pre_fixed}
use Rattle.hy_subplan.proofs.StretchLaws.{made_few, made_put, stretch_fits, told_row}
use Rattle.hy_subplan.proofs.PreLaws.{pre_asks, pre_ends, pre_gives, pre_last}
use Rattle.hy_subplan.proofs.pre_group.PreGroupDriver.next.Goals as goal

pub returns-then-self-clause-told : goal.returns-then-self-clause-told
returns-then-self-clause-told c =
    let d = c.args.self.now in
    pre_gives (pre_fixed d) d.keys d.nested d.root refl d.ended d.holds d.row _ d.rows d.phase c.if-self.true d.works (search rules) d.wide (search rules)

pub returns-then-not-self-clause-told : goal.returns-then-not-self-clause-told
returns-then-not-self-clause-told c =
    let d = c.args.self.now in
    let going : d.ended ≡ false = search rules in
    pre_asks (pre_fixed d) d.keys d.nested d.root refl d.ended d.holds d.row [] d.rows d.phase c.if-self.false going c.requires.going d.over

pub returns-then-is_empty-clause-told : goal.returns-then-is_empty-clause-told
returns-then-is_empty-clause-told c =
    let d = c.args.self.now in
    let over : d.ended ≡ true = search rules in
    let none : d.rows ≡ [] = search rules in
    pre_ends (pre_fixed d) d.keys d.nested d.root refl d.ended d.holds d.row [] d.rows d.phase c.if-self.false over none c.requires.going

pub stretch_row-requires-clause-fits : goal.stretch_row-requires-clause-fits
stretch_row-requires-clause-fits c = let d = c.args.self.now in stretch_fits d.nested d.width d.rows c.as_slice-2.result.now d.root d.each (search rules) d.fit

pub put_row-requires : goal.put_row-requires
put_row-requires c =
    let d = c.args.self.now in
    record { few = made_few d.nested d.width d.arity d.keys c.as_slice.result.now c.in_ok-made.made c.as_slice-3.result.now d.rows c.as_slice-2.result.now c.in_ok-made.ensures.wide (search rules) (search rules) d.fit d.behind d.few (search rules) }

pub returns-clause-told : goal.returns-clause-told
returns-clause-told c =
    let d = c.args.self.now in
    let over : d.ended ≡ true = search rules in
    pre_last (pre_fixed d) d.keys d.nested d.root refl d.ended d.holds d.row c.put_row.new.out d.rows c.replace-rows.new.dest c.in_ok-made.made d.phase c.if-self.false over c.requires.going d.done
    (told_row d.nested d.keys c.as_slice.result.now d.rows c.as_slice-2.result.now c.in_ok-made.made (search rules) (search rules) c.in_ok-made.ensures.given) (search rules) (search rules) c.as_row-2.ensures.fields
    (made_put d.nested d.width d.arity d.keys c.as_slice.result.now c.in_ok-made.made c.as_slice-3.result.now c.put_row.new.out d.rows c.as_slice-2.result.now c.in_ok-made.ensures.wide (search rules) (search rules) d.fit d.behind (search rules) (search rules))
