use Rattle.hy_rows.proofs.FieldOrder.{fields_order}
use Rattle.hy_rows.proofs.order.cmp_values.Goals as goal

pub returns : goal.returns
returns c = fields_order c.args.a.now c.args.b.now c.cmp_fields.result c.requires.a_field c.requires.b_field c.cmp_fields.ensures.order
