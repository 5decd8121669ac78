use Rattle.std.proofs.Common.{◌∙◌, ◌<◌, [], sym, ap, subst, length, get_or, arith}
use Rattle.hy_frame.specs.Field.{IsField}
use Rattle.hy_frame.proofs.RowLaws.{ends_long, start_is, end_is, field_is, field_bounds, field_at}
use Rattle.hy_frame.proofs.row.RowRef.field.Goals as goal

pub start_of-start-requires : goal.start_of-start-requires
start_of-start-requires c = omega (arith, ends_long _ _ _ c.self.invariant, ap length c.self.view_is, c.self.invariant.counted)

pub overflow_mul-j : goal.overflow_mul-j
overflow_mul-j c = omega (arith, ends_long _ _ _ c.self.invariant, ap length c.self.view_is, c.self.invariant.counted, c.self.told.0.0)

pub number_at-end-requires : goal.number_at-end-requires
number_at-end-requires c = omega (arith, ends_long _ _ _ c.self.invariant, ap length c.self.view_is, c.self.invariant.counted)

pub part-requires-clause-ordered : goal.part-requires-clause-ordered
part-requires-clause-ordered c =
    let h = c.self.invariant in
    let low : c.args.j < c.self.inside.count = omega (arith, ap length c.self.view_is, h.counted) in
    let starts = start_is _ _ _ _ c.start_of-start.result h (omega arith) c.start_of-start.ensures.first c.start_of-start.ensures.later in
    let stops = c.number_at-end.ensures.number ∙ end_is _ _ _ _ h low in
    (field_bounds _ _ _ _ _ _ h low starts stops).0

pub part-requires-clause-within : goal.part-requires-clause-within
part-requires-clause-within c =
    let h = c.self.invariant in
    let low : c.args.j < c.self.inside.count = omega (arith, ap length c.self.view_is, h.counted) in
    let starts = start_is _ _ _ _ c.start_of-start.result h (omega arith) c.start_of-start.ensures.first c.start_of-start.ensures.later in
    let stops = c.number_at-end.ensures.number ∙ end_is _ _ _ _ h low in
    (field_bounds _ _ _ _ _ _ h low starts stops).1

pub returns-clause-field : goal.returns-clause-field
returns-clause-field c =
    let h = c.self.invariant in
    let low : c.args.j < c.self.inside.count = omega (arith, ap length c.self.view_is, h.counted) in
    let starts = start_is _ _ _ _ c.start_of-start.result h (omega arith) c.start_of-start.ensures.first c.start_of-start.ensures.later in
    let stops = c.number_at-end.ensures.number ∙ end_is _ _ _ _ h low in
    c.part.ensures ∙ field_is _ _ _ _ _ _ h low starts stops ∙ ap (λ r. get_or r c.args.j []) c.self.view_is

pub returns-clause-is_field : goal.returns-clause-is_field
returns-clause-is_field c =
    let h = c.self.invariant in
    let low : c.args.j < c.self.inside.count = omega (arith, ap length c.self.view_is, h.counted) in
    let starts = start_is _ _ _ _ c.start_of-start.result h (omega arith) c.start_of-start.ensures.first c.start_of-start.ensures.later in
    let stops = c.number_at-end.ensures.number ∙ end_is _ _ _ _ h low in
    subst IsField (sym (c.part.ensures ∙ field_is _ _ _ _ _ _ h low starts stops)) (field_at _ _ h.fields_are (omega (arith, h.counted)))
