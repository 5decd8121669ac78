use Rattle.std.proofs.Common.{◌≡◌, ◌∙◌, ◌<◌, ◌+◌, ◌++◌, ◌∷◌, [], List, ℕ, ap, length, arith}
use Rattle.hy_frame.specs.Word.{word_bytes}
use Rattle.hy_frame.proofs.RowLaws.{push_holds, length-field, fields_short}
use Rattle.hy_frame.proofs.row.RowBuf.push_field.Goals as goal

pub overflow_cast-end : goal.overflow_cast-end
overflow_cast-end c = omega (arith, fields_short _ _ _ c.self.invariant.0, length-field _ c.requires.is_field)

pub invariant_of-self-2 : goal.invariant_of-self-2
invariant_of-self-2 c =
    let h = c.self.invariant.0 in
    let low : c.self.inside.count < 1024 = omega (arith, ap length c.self.view_is, h.counted, c.requires.room) in
    let new = push_holds _ _ _ c.args.field.now h low c.requires.is_field in
    let sum : c.len.result + length c.args.field.now ≡ length c.self.inside.fields.items + length c.args.field.now = omega arith in
    let ends = c.in_ok-push_number.ensures.ok ∙ ap (λ k. c.self.inside.ends.items ++ word_bytes k) sum in
    let fields = c.in_ok-extend_from_slice.ensures.items ∙ ap (λ (l : List ℕ). l ++ c.args.field.now) c.in_ok-reserve.ensures.items in
    (rw (ends, fields) new.0, omega arith)

pub returns-clause-ok : goal.returns-clause-ok
returns-clause-ok c =
    let h = c.self.invariant.0 in
    let low : c.self.inside.count < 1024 = omega (arith, ap length c.self.view_is, h.counted, c.requires.room) in
    let new = push_holds _ _ _ c.args.field.now h low c.requires.is_field in
    let sum : c.len.result + length c.args.field.now ≡ length c.self.inside.fields.items + length c.args.field.now = omega arith in
    let ends = c.in_ok-push_number.ensures.ok ∙ ap (λ k. c.self.inside.ends.items ++ word_bytes k) sum in
    let fields = c.in_ok-extend_from_slice.ensures.items ∙ ap (λ (l : List ℕ). l ++ c.args.field.now) c.in_ok-reserve.ensures.items in
    rw (ends, fields) (new.1 ∙ ap (λ r. r ++ c.args.field.now ∷ []) c.self.view_is)
