use Rattle.std.proofs.Common.{subst, take}
use Rattle.std.proofs.lemmas.List.{take_all}
use Rattle.hy_driver.specs.Rows.{AreValues, Row}
use Rattle.hy_job.proofs.RowLaws.{upto}
use Rattle.hy_aggregate.proofs.Lasting.{more_values}
use Rattle.hy_aggregate.proofs.work.are_values.Goals as goal

pub loop-v-preserved : goal.loop-v-preserved
loop-v-preserved c =
    subst (λ (row : Row). AreValues row) (upto c.args.row.now c.loop-v.v-index c.v-item.result c.loop-v-test.true c.v-item.is)
    (more_values (take c.loop-v.v-index c.args.row.now) c.v-item.result c.loop-v.invariant c.is_value.ensures)

pub returns : goal.returns
returns c = subst (λ (row : Row). AreValues row) (take_all c.loop-v.v-index c.args.row.now c.loop-v-test.false) c.loop-v.invariant
