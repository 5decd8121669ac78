use Rattle.std.proofs.Common.{List, subst, take}
use Rattle.std.proofs.lemmas.List.{take_all}
use Rattle.std.specs.List.{AllByRecursion}
use Rattle.hy_frame.specs.Row.{Fields}
use Rattle.hy_job.proofs.RowLaws.{upto}
use Rattle.hy_operator.proofs.More.{is_own_row, more_rows}
use Rattle.hy_operator.proofs.given.are_rows.Goals as goal

pub loop-buf-preserved : goal.loop-buf-preserved
loop-buf-preserved c =
    subst (AllByRecursion is_own_row) (upto c.args.rows.now c.loop-buf.buf-index c.buf-item.result c.loop-buf-test.true c.buf-item.is)
    (more_rows (take c.loop-buf.buf-index c.args.rows.now) c.buf-item.result c.loop-buf.invariant c.as_row.ensures.fields)

pub returns : goal.returns
returns c = subst (AllByRecursion is_own_row) (take_all c.loop-buf.buf-index c.args.rows.now c.loop-buf-test.false) c.loop-buf.invariant
