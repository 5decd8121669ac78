use Rattle.std.proofs.Common.{sym, subst, true≢false, refl, arith}
use Rattle.hy_frame.proofs.ByteLists.{AreBytes}
use Rattle.hy_frame.proofs.ParseLaws.{parse_complete, parse_sound, bytes_drop}
use Rattle.hy_frame.proofs.parse.parse_frame.Goals as goal
use Rattle.hy_frame.proofs.parse.parse_frame.Goals.{else-are_tuples-via-then-are_tuples+else-has_size, else-are_tuples-via-else-are_tuples}

pub returns-then-count-front-clause-bad : goal.returns-then-count-front-clause-bad
returns-then-count-front-clause-bad c = (
  λ e text.
      let r = parse_complete _ _ _ _ _ _ _ _ _ c.split_at.ensures.front c.split_at.ensures.back c.number_at-count.ensures.number refl refl refl text in
      absurd (omega (arith, r.0)),
  λ none. refl,
)

pub returns-then-has_size-clause-ok : goal.returns-then-has_size-clause-ok
returns-then-has_size-clause-ok c =
    parse_sound _ _ _ _ _ _ _ _ _ c.split_at.ensures.front c.split_at.ensures.back c.number_at-count.ensures.number refl c.split_at-2.ensures.front c.split_at-2.ensures.back
    (omega arith) (omega arith) (subst AreBytes (sym c.split_at.ensures.back) (bytes_drop _ c.args.bytes.now (λ i. omega (arith, c.type_inv.bytes i)))) (omega arith)
    (c.if-are_tuples.ensures.0 refl) (c.if-has_size.ensures.0 refl)

pub returns-then-has_size-clause-bad : goal.returns-then-has_size-clause-bad
returns-then-has_size-clause-bad c =
    let r = parse_sound _ _ _ _ _ _ _ _ _ c.split_at.ensures.front c.split_at.ensures.back c.number_at-count.ensures.number refl c.split_at-2.ensures.front c.split_at-2.ensures.back
    (omega arith) (omega arith) (subst AreBytes (sym c.split_at.ensures.back) (bytes_drop _ c.args.bytes.now (λ i. omega (arith, c.type_inv.bytes i)))) (omega arith)
    (c.if-are_tuples.ensures.0 refl) (c.if-has_size.ensures.0 refl) in
    (λ e. absurd (true≢false (sym e)), λ none. absurd (none (r.0, r.2)))

pub returns-else-are_tuples-clause-bad : goal.returns-else-are_tuples-clause-bad
returns-else-are_tuples-clause-bad c = (
  λ e text.
      let r = parse_complete _ _ _ _ _ _ _ _ _ c.split_at.ensures.front c.split_at.ensures.back c.number_at-count.ensures.number refl c.split_at-2.ensures.front c.split_at-2.ensures.back text in
      elim c.else-are_tuples.branch [
        | else-are_tuples-via-then-are_tuples+else-has_size w ↦ absurd (true≢false (sym (w.if-has_size.ensures.1 r.2)))
        | else-are_tuples-via-else-are_tuples w ↦ absurd (true≢false (sym (w.if-are_tuples.ensures.1 r.1)))
      ],
  λ none. refl,
)
