use Rattle.std.proofs.Common.{◌≡◌, ◌∙◌, ap, ap₂, length, arith}
use Rattle.hy_frame.specs.Pieces.{with_row}
use Rattle.hy_frame.specs.Row.{row_size}
use Rattle.hy_frame.proofs.AppendLaws.{appends}
use Rattle.hy_frame.proofs.FrameLaws.{used_within, written}
use Rattle.hy_frame.proofs.frame.Frame.append.Goals as goal

pub write_row-requires-clause-room : goal.write_row-requires-clause-room
write_row-requires-clause-room c =
    let step = appends c.self.inside.arity c.self.inside.unit c.self.inside.count c.self.inside.used c.self.inside.bytes.items c.args.row.now c.size-size.result c.args.self.now c.self.invariant c.as_row.ensures.fields.1 c.size-size.ensures.size c.size-size.ensures.short c.self.view_is c.requires.arity c.if-is_full_for.ensures.1 c.requires.alone in
    omega (arith, step.room, ap row_size c.as_row.ensures.row, ap length c.deref_mut.ensures.value)

pub write_row-requires-clause-reached : goal.write_row-requires-clause-reached
write_row-requires-clause-reached c =
    let step = appends c.self.inside.arity c.self.inside.unit c.self.inside.count c.self.inside.used c.self.inside.bytes.items c.args.row.now c.size-size.result c.args.self.now c.self.invariant c.as_row.ensures.fields.1 c.size-size.ensures.size c.size-size.ensures.short c.self.view_is c.requires.arity c.if-is_full_for.ensures.1 c.requires.alone in
    omega (arith, step.reached, ap length c.deref_mut.ensures.value)

pub overflow_add-self-2 : goal.overflow_add-self-2
overflow_add-self-2 c = omega (arith, used_within _ _ _ _ _ c.self.invariant)

pub invariant_of-self : goal.invariant_of-self
invariant_of-self c =
    let step = appends c.self.inside.arity c.self.inside.unit c.self.inside.count c.self.inside.used c.self.inside.bytes.items c.args.row.now c.size-size.result c.args.self.now c.self.invariant c.as_row.ensures.fields.1 c.size-size.ensures.size c.size-size.ensures.short c.self.view_is c.requires.arity c.if-is_full_for.ensures.1 c.requires.alone in
    let made = c.write_row.ensures ∙ ap₂ (with_row c.self.inside.count c.self.inside.used) c.as_row.ensures.row c.deref_mut.ensures.value in
    let long : length c.write_row.new.bytes ≡ length c.self.inside.bytes.items = step.long c.write_row.new.bytes made in
    rw (written c.write_row.new.bytes c.self.inside.bytes.items c.self.inside.bytes.len (omega arith)) (step.holds c.write_row.new.bytes made)

pub returns-clause-appended : goal.returns-clause-appended
returns-clause-appended c =
    let step = appends c.self.inside.arity c.self.inside.unit c.self.inside.count c.self.inside.used c.self.inside.bytes.items c.args.row.now c.size-size.result c.args.self.now c.self.invariant c.as_row.ensures.fields.1 c.size-size.ensures.size c.size-size.ensures.short c.self.view_is c.requires.arity c.if-is_full_for.ensures.1 c.requires.alone in
    let made = c.write_row.ensures ∙ ap₂ (with_row c.self.inside.count c.self.inside.used) c.as_row.ensures.row c.deref_mut.ensures.value in
    let long : length c.write_row.new.bytes ≡ length c.self.inside.bytes.items = step.long c.write_row.new.bytes made in
    λ _. rw (written c.write_row.new.bytes c.self.inside.bytes.items c.self.inside.bytes.len (omega arith)) (step.is c.write_row.new.bytes made)
