use Rattle.std.proofs.Common.{ap, subst, [], length, get_or, arith}
use Rattle.hy_frame.specs.Row.{IsRow}
use Rattle.hy_frame.proofs.AppendLaws.{row_in}
use Rattle.hy_frame.proofs.FrameLaws.{tuple_holds}
use Rattle.hy_frame.proofs.RowLaws.{length-tuple}
use Rattle.hy_frame.proofs.frame.Frame.row.Goals as goal

pub split_at-requires : goal.split_at-requires
split_at-requires c =
    let r = row_in _ _ _ _ _ _ c.args.i c.self.invariant c.self.view_is c.requires in
    omega (arith, r.is.0, length-tuple (get_or c.args.self.now.rows c.args.i []), ap length c.tuple-tuple.ensures)

pub invariant_of-result : goal.invariant_of-result
invariant_of-result c =
    let r = row_in _ _ _ _ _ _ c.args.i c.self.invariant c.self.view_is c.requires in
    (tuple_holds _ _ _ _ _ r.is r.short c.tuple-tuple.ensures c.split_at.ensures.front c.split_at.ensures.back).0

pub returns-clause-row : goal.returns-clause-row
returns-clause-row c =
    let r = row_in _ _ _ _ _ _ c.args.i c.self.invariant c.self.view_is c.requires in
    (tuple_holds _ _ _ _ _ r.is r.short c.tuple-tuple.ensures c.split_at.ensures.front c.split_at.ensures.back).1

pub returns-clause-fields : goal.returns-clause-fields
returns-clause-fields c =
    let r = row_in _ _ _ _ _ _ c.args.i c.self.invariant c.self.view_is c.requires in
    subst (λ k. IsRow k (get_or c.args.self.now.rows c.args.i [])) r.same r.is
