use Rattle.std.proofs.Common.{[], ◌∷◌, ◌++◌, ◌+◌, replicate, ap, ◌∙◌}
use Rattle.hy_frame.specs.Row.{Fields}
use Rattle.hy_join.specs.Probe.{arity_of, partners_of}
use Rattle.hy_join.proofs.LeftLaws.{comes_alone, padded_row}
use Rattle.hy_join.proofs.left.LeftRow.leave.Goals as goal

pub returns-then-self-clause-looked : goal.returns-then-self-clause-looked
returns-then-self-clause-looked c =
    let side = c.args.side.now in
    let left = c.args.self.now in
    let wide = ap (λ n. n + side.sides.right) c.requires.wide in
    let put = c.in_ok-put_padded.ensures ∙ ap (λ (row : Fields). row ++ replicate side.sides.right (0 ∷ [])) c.as_row.ensures.row in
    record {
      first = comes_alone side.arg (arity_of side) (partners_of side left.hash) left.row left.holds left.alone left.place side.sides.right c.put_padded.new.out c.requires.holds c.if-self.true c.requires.met wide put;
      is_row = padded_row left.row c.put_padded.new.out side.sides.right (arity_of side) c.as_row.ensures.fields wide put;
    }
