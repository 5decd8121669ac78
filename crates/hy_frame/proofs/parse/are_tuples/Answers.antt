use Rattle.std.proofs.Common.{◌≡◌, ◌+◌, ◌-◌, ◌^◌, ◌<◌, length, length-drop, ap, sym, subst, true≢false, refl, arith}
use Rattle.hy_frame.specs.Parse.{BeginsTuple}
use Rattle.hy_frame.proofs.ByteLists.{AreBytes}
use Rattle.hy_frame.proofs.ParseLaws.{tuples_now, tuples_step, bytes_take}
use Rattle.hy_frame.proofs.parse.are_tuples.Goals as goal

pub returns-then-not-begins_tuple : goal.returns-then-not-begins_tuple
returns-then-not-begins_tuple c =
    let h = c.loop-i.invariant in
    let some : 0 < c.args.count - c.loop-i.i = omega arith in
    let low : c.loop-i.start + length c.loop-i.rest.now < 2 ^ 32 = omega (arith, h.short, c.requires.short) in (
      λ e. absurd (true≢false (sym e)),
      λ are. c.if-not-begins_tuple.ensures.1
          (tuples_now _ _ _ _ _ _ _ _ some h.long refl c.split_at.ensures.back c.number_at-end.ensures.number low (h.same.0 are)),
    )

pub loop-i-preserved : goal.loop-i-preserved
loop-i-preserved c =
    let h = c.loop-i.invariant in
    let one : c.args.count - c.loop-i.i ≡ (c.args.count - (c.loop-i.i + 1)) + 1 = omega arith in
    let low : c.loop-i.start + length c.loop-i.rest.now < 2 ^ 32 = omega (arith, h.short, c.requires.short) in
    let begins : BeginsTuple c.args.arity c.loop-i.start c.number_at-end.result c.loop-i.rest.now = c.if-not-begins_tuple.ensures.0 refl in
    let step = tuples_step _ _ _ _ _ _ _ _ _ c.split_at.result.0.now c.after-rest.result.now one h.long refl c.split_at.ensures.back c.number_at-end.ensures.number
    c.split_at.ensures.front c.after-rest.ensures h.small low begins in
    record {
      same = (λ are. step.0 (h.same.0 are), λ are. h.same.1 (step.1 are));
      long = omega (arith, c.split_at.ensures.front_len, h.long);
      short = omega (arith, ap length c.after-rest.ensures, length-drop (c.number_at-end.result - c.loop-i.start) c.loop-i.rest.now, h.short, begins.0, begins.1);
      small = subst AreBytes (sym c.split_at.ensures.front) (bytes_take _ _ h.small);
    }
