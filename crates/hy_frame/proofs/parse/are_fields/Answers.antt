use Rattle.std.proofs.Common.{◌≡◌, ◌+◌, ◌-◌, ◌^◌, ◌<◌, ℕ, length, length-drop, ap, sym, subst, true≢false, refl, arith}
use Rattle.hy_frame.specs.Parse.{BeginsField}
use Rattle.hy_frame.proofs.ByteLists.{AreBytes}
use Rattle.hy_frame.proofs.ParseLaws.{fields_now, fields_step, bytes_drop}
use Rattle.hy_frame.proofs.parse.are_fields.Goals as goal

pub returns-then-not-begins_field : goal.returns-then-not-begins_field
returns-then-not-begins_field c =
    let h = c.loop-j.invariant in
    let some : 0 < c.args.count - c.loop-j.j = omega arith in
    let low : c.loop-j.start + length c.loop-j.rest.now < 2 ^ 32 = omega (arith, h.short, c.requires.short) in (
      λ e. absurd (true≢false (sym e)),
      λ are. c.if-not-begins_field.ensures.1
          (subst (λ (e : ℕ). BeginsField c.loop-j.start e c.loop-j.rest.now) (sym c.number_at-end.ensures.number) (fields_now _ _ _ _ some low (h.same.0 are))),
    )

pub loop-j-preserved : goal.loop-j-preserved
loop-j-preserved c =
    let h = c.loop-j.invariant in
    let one : c.args.count - c.loop-j.j ≡ (c.args.count - (c.loop-j.j + 1)) + 1 = omega arith in
    let low : c.loop-j.start + length c.loop-j.rest.now < 2 ^ 32 = omega (arith, h.short, c.requires.short) in
    let begins : BeginsField c.loop-j.start c.number_at-end.result c.loop-j.rest.now = c.if-not-begins_field.ensures.0 refl in
    let step = fields_step _ _ _ _ _ _ c.after-left.result.now c.after-rest.result.now one c.number_at-end.ensures.number c.after-left.ensures c.after-rest.ensures
    (omega (arith, h.long)) h.small low begins in
    record {
      same = (λ are. step.0 (h.same.0 are), λ are. h.same.1 (step.1 are));
      long = omega (arith, ap length c.after-left.ensures, length-drop 4 c.loop-j.left.now, h.long);
      short = omega (arith, ap length c.after-rest.ensures, length-drop (c.number_at-end.result - c.loop-j.start) c.loop-j.rest.now, h.short, begins.0, begins.1);
      small = subst AreBytes (sym c.after-left.ensures) (bytes_drop 4 _ h.small);
    }
