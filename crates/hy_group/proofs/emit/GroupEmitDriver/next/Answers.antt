use Rattle.std.proofs.Common.{rules, ◌≡◌, [], refl}
use Rattle.hy_group.specs.Joining.{handed_sees, kinds, kinds_of}
use Rattle.hy_group.proofs.EmitLaws.{emit_ends, emit_gives, emit_works}
use Rattle.hy_group.proofs.GiveLaws.{taken_none, taken_one}
use Rattle.hy_group.proofs.GroupLaws.{front_right, right_added}
use Rattle.hy_group.proofs.emit.GroupEmitDriver.next.Goals as goal

pub invariant_of-self-clause-right : goal.invariant_of-self-clause-right
invariant_of-self-clause-right g c =
    let d = c.args.self.now in
    right_added (handed_sees d.arg.now) (λ states. kinds states ≡ kinds_of d.arg.now) [] _ _ d.groups c.join_row-joined.new.groups c.in-Ok.ensures.added d.right

pub invariant_of-self-in-Ok-true-clause-right : goal.invariant_of-self-in-Ok-true-clause-right
invariant_of-self-in-Ok-true-clause-right g c =
    let d = c.args.self.now in
    let t = taken_one d.shape.arity d.groups c.give_row.new.groups c.give_row.new.out c.in-Ok-true.field-0 c.in-Ok-true.field-0-test c.in-Ok-true.ensures in
    front_right (λ states. kinds states ≡ kinds_of d.arg.now) d.groups c.give_row.new.groups t.entry t.last d.right

pub returns-in-Ok-true-clause-told : goal.returns-in-Ok-true-clause-told
returns-in-Ok-true-clause-told g c =
    let d = c.args.self.now in
    emit_gives _ refl d.shape.width d.arg.now d.rows _ d.at d.groups c.give_row.new.groups c.give_row.new.out d.ended d.phase (search (rules, c.if-self-len.false))
    (taken_one d.shape.arity d.groups c.give_row.new.groups c.give_row.new.out c.in-Ok-true.field-0 c.in-Ok-true.field-0-test c.in-Ok-true.ensures) c.requires.going d.left_none

pub returns-then-self-clause-told : goal.returns-then-self-clause-told
returns-then-self-clause-told g c =
    let d = c.args.self.now in
    emit_ends _ refl d.shape.width d.arg.now d.rows _ d.at d.groups c.give_row.new.groups c.give_row.new.out d.ended d.phase (search (rules, c.if-self-len.false))
    (taken_none d.shape.arity d.groups c.give_row.new.groups c.give_row.new.out c.in-Ok-false.field-0 c.in-Ok-false.field-0-test c.in-Ok-false.ensures) c.if-self.true c.requires.going

pub returns-in-Ok-clause-told : goal.returns-in-Ok-clause-told
returns-in-Ok-clause-told g c =
    let d = c.args.self.now in
    emit_works _ refl d.shape.width d.arg.now d.rows _ (λ states. kinds states ≡ kinds_of d.arg.now) d.at (search (rules, c.if-self-len.true)) d.groups c.join_row-joined.new.groups (search (rules, c.in-Ok.ensures.added)) c.args.out.now d.ended d.phase c.requires.going d.read
