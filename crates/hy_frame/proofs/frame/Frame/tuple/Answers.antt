use Rattle.std.proofs.Common.{◌≡◌, ◌∙◌, ◌*◌, ◌-◌, ◌<◌, [], ap, ap₂, length, get_or, take, drop, arith, List, ℕ}
use Rattle.hy_frame.specs.Frame.{FrameOf}
use Rattle.hy_frame.specs.Row.{tuple_bytes}
use Rattle.hy_frame.specs.Word.{word_in}
use Rattle.hy_frame.proofs.FrameLaws.{used_within, slot_is, tuple_start_is, tuple_is, tuple_bounds}
use Rattle.hy_frame.proofs.frame.Frame.tuple.Goals as goal

pub start_of-start-requires : goal.start_of-start-requires
start_of-start-requires c =
    omega (arith, ap (λ (f : FrameOf). length f.rows) c.self.view_is, c.self.invariant.counted, used_within _ _ _ _ _ c.self.invariant, ap length c.deref.ensures.value)

pub overflow_mul-i : goal.overflow_mul-i
overflow_mul-i c =
    omega (arith, ap (λ (f : FrameOf). length f.rows) c.self.view_is, c.self.invariant.counted, used_within _ _ _ _ _ c.self.invariant, ap length c.deref.ensures.value, c.deref.type_inv.0)

pub overflow_sub-size-2 : goal.overflow_sub-size-2
overflow_sub-size-2 c =
    omega (arith, ap (λ (f : FrameOf). length f.rows) c.self.view_is, c.self.invariant.counted, used_within _ _ _ _ _ c.self.invariant, ap length c.deref.ensures.value, c.deref.ensures.len)

pub number_at-end-requires : goal.number_at-end-requires
number_at-end-requires c =
    omega (arith, ap (λ (f : FrameOf). length f.rows) c.self.view_is, c.self.invariant.counted, used_within _ _ _ _ _ c.self.invariant, ap length c.deref-2.ensures.value, c.deref-2.ensures.len)

pub part-requires-clause-ordered : goal.part-requires-clause-ordered
part-requires-clause-ordered c =
    let h = c.self.invariant in
    let low : c.args.i < c.self.inside.count = omega (arith, ap (λ (f : FrameOf). length f.rows) c.self.view_is, h.counted) in
    let size : c.len-size.result ≡ length c.self.inside.bytes.items = omega (arith, ap length c.deref.ensures.value, c.deref.ensures.len) in
    let starts = tuple_start_is _ _ _ _ c.self.inside.bytes.items _ c.start_of-start.result h (omega arith) c.start_of-start.ensures.first
    (λ some. c.start_of-start.ensures.later some ∙ ap (λ (b : List ℕ). word_in (drop (length b - 4 - 4 * c.args.i) b)) c.deref.ensures.value) in
    let stops = c.number_at-end.ensures.number ∙ ap₂ (λ (k : ℕ) (b : List ℕ). word_in (drop (k - 8 - 4 * c.args.i) b)) size c.deref-2.ensures.value ∙ slot_is _ _ _ _ _ _ h low in
    (tuple_bounds _ _ _ _ _ _ _ _ h low starts stops).0

pub part-requires-clause-within : goal.part-requires-clause-within
part-requires-clause-within c =
    let h = c.self.invariant in
    let low : c.args.i < c.self.inside.count = omega (arith, ap (λ (f : FrameOf). length f.rows) c.self.view_is, h.counted) in
    let size : c.len-size.result ≡ length c.self.inside.bytes.items = omega (arith, ap length c.deref.ensures.value, c.deref.ensures.len) in
    let starts = tuple_start_is _ _ _ _ c.self.inside.bytes.items _ c.start_of-start.result h (omega arith) c.start_of-start.ensures.first
    (λ some. c.start_of-start.ensures.later some ∙ ap (λ (b : List ℕ). word_in (drop (length b - 4 - 4 * c.args.i) b)) c.deref.ensures.value) in
    let stops = c.number_at-end.ensures.number ∙ ap₂ (λ (k : ℕ) (b : List ℕ). word_in (drop (k - 8 - 4 * c.args.i) b)) size c.deref-2.ensures.value ∙ slot_is _ _ _ _ _ _ h low in
    let bounds = tuple_bounds _ _ _ _ _ _ _ _ h low starts stops in
    omega (arith, bounds.1, ap length c.deref-3.ensures.value)

pub returns : goal.returns
returns c =
    let h = c.self.invariant in
    let low : c.args.i < c.self.inside.count = omega (arith, ap (λ (f : FrameOf). length f.rows) c.self.view_is, h.counted) in
    let size : c.len-size.result ≡ length c.self.inside.bytes.items = omega (arith, ap length c.deref.ensures.value, c.deref.ensures.len) in
    let starts = tuple_start_is _ _ _ _ c.self.inside.bytes.items _ c.start_of-start.result h (omega arith) c.start_of-start.ensures.first
    (λ some. c.start_of-start.ensures.later some ∙ ap (λ (b : List ℕ). word_in (drop (length b - 4 - 4 * c.args.i) b)) c.deref.ensures.value) in
    let stops = c.number_at-end.ensures.number ∙ ap₂ (λ (k : ℕ) (b : List ℕ). word_in (drop (k - 8 - 4 * c.args.i) b)) size c.deref-2.ensures.value ∙ slot_is _ _ _ _ _ _ h low in
    c.part.ensures ∙ ap (λ (b : List ℕ). take (c.number_at-end.result - c.start_of-start.result) (drop c.start_of-start.result b)) c.deref-3.ensures.value
    ∙ tuple_is _ _ _ _ _ _ _ _ h low starts stops ∙ ap (λ (f : FrameOf). tuple_bytes (get_or f.rows c.args.i [])) c.self.view_is
