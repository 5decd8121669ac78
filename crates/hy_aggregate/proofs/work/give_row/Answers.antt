use Rattle.hy_aggregate.proofs.Aggregating.{row_again}
use Rattle.hy_aggregate.proofs.work.give_row.Goals as goal

pub returns-clause-values : goal.returns-clause-values
returns-clause-values c = (row_again c.args.row.now c.put_row.new.out c.as_row-fields.ensures.fields c.in_ok-put_row.ensures.values).0

pub returns-clause-fields : goal.returns-clause-fields
returns-clause-fields c = (row_again c.args.row.now c.put_row.new.out c.as_row-fields.ensures.fields c.in_ok-put_row.ensures.values).1
