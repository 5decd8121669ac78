use Rattle.std.proofs.Common.{◌≡◌, [], refl, sym, subst, ◌∙◌, length}
use Rattle.std.specs.List.{All}
use Rattle.hy_frame.specs.Row.{Fields}
use Rattle.hy_group.specs.Fresh.{aggs_of}
use Rattle.hy_group.proofs.BuildLaws.{build_asks, build_makes, build_over, made_none, made_one, rows_fit}
use Rattle.hy_group.proofs.GroupLaws.{front_right}
use Rattle.hy_group.proofs.build.GroupBuildDriver.next.Goals as goal

pub returns-then-not-self-clause-told : goal.returns-then-not-self-clause-told
returns-then-not-self-clause-told g c = let d = c.args.self.now in build_asks _ refl d.arg.now _ d.groups d.rows [] d.ended d.phase c.if-not-self.true c.requires.going d.over

pub invariant_of-self-in-Ok-true-clause-each : goal.invariant_of-self-in-Ok-true-clause-each
invariant_of-self-in-Ok-true-clause-each g c =
    let d = c.args.self.now in
    let m = made_one d.shape.arity d.groups c.make_row.new.groups d.rows c.make_row.new.rows c.in-Ok-true.field-0 c.in-Ok-true.field-0-test c.in-Ok-true.ensures in
    front_right (λ states. length states ≡ length (aggs_of d.arg.now.nested)) d.groups c.make_row.new.groups m.entry m.last d.each

pub invariant_of-self-in-Ok-true-clause-fit : goal.invariant_of-self-in-Ok-true-clause-fit
invariant_of-self-in-Ok-true-clause-fit g c = let d = c.args.self.now in rows_fit d.shape.arity d.groups c.make_row.new.groups d.rows c.make_row.new.rows (made_one d.shape.arity d.groups c.make_row.new.groups d.rows c.make_row.new.rows c.in-Ok-true.field-0 c.in-Ok-true.field-0-test c.in-Ok-true.ensures) d.fit

pub invariant_of-self-in-Err-clause-fit : goal.invariant_of-self-in-Err-clause-fit
invariant_of-self-in-Err-clause-fit g c = let d = c.args.self.now in subst (All (λ (row : Fields). length row ≡ d.shape.arity)) (sym c.in-Err.ensures.2) d.fit

pub invariant_of-self-in-Err-clause-none : goal.invariant_of-self-in-Err-clause-none
invariant_of-self-in-Err-clause-none g c h = let d = c.args.self.now in c.in-Err.ensures.2 ∙ d.none h

pub returns-in-Ok-true-clause-told : goal.returns-in-Ok-true-clause-told
returns-in-Ok-true-clause-told g c =
    let d = c.args.self.now in
    build_makes _ refl d.arg.now _ d.groups c.make_row.new.groups d.rows c.make_row.new.rows [] d.ended d.phase (made_one d.shape.arity d.groups c.make_row.new.groups d.rows c.make_row.new.rows c.in-Ok-true.field-0 c.in-Ok-true.field-0-test c.in-Ok-true.ensures) c.requires.going d.left_none

pub returns-in-Ok-false-clause-told : goal.returns-in-Ok-false-clause-told
returns-in-Ok-false-clause-told g c =
    let d = c.args.self.now in
    build_over _ refl d.arg.now _ d.groups c.make_row.new.groups d.rows c.make_row.new.rows [] d.ended d.phase (made_none d.shape.arity d.groups c.make_row.new.groups d.rows c.make_row.new.rows c.in-Ok-false.field-0 c.in-Ok-false.field-0-test c.in-Ok-false.ensures) c.if-not-self.false c.requires.going
