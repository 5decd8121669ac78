use Rattle.std.proofs.Common.{◌*◌, ◌≤◌, ◌↔◌, sym, true≢false, length, arith}
use Rattle.hy_frame.specs.Parse.{AreFields, IsTuple}
use Rattle.hy_frame.proofs.ParseLaws.{tuple_fields, tuple_long}
use Rattle.hy_frame.proofs.parse.is_tuple.Goals as goal

pub returns-then-arity-tuple : goal.returns-then-arity-tuple
returns-then-arity-tuple c = (λ e. absurd (true≢false (sym e)), λ is. absurd (omega (arith, tuple_long _ _ is)))

pub returns : goal.returns
returns c =
    let room : 4 * c.args.arity ≤ length c.args.tuple.now = omega arith in
    let same : AreFields c.args.arity 0 c.split_at.result.0.now c.split_at.result.1.now ↔ IsTuple c.args.arity c.args.tuple.now =
    rw (c.split_at.ensures.front, c.split_at.ensures.back) (tuple_fields c.args.arity c.args.tuple.now room) in
    (λ yes. same.0 (c.are_fields.ensures.0 yes), λ is. c.are_fields.ensures.1 (same.1 is))
