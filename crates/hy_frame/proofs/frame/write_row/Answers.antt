use Rattle.std.proofs.Common.{ap, length, arith}
use Rattle.hy_frame.proofs.RowLaws.{length-field_ends}
use Rattle.hy_frame.proofs.frame.write_row.Goals as goal

pub put-requires : goal.put-requires
put-requires c = omega (arith, ap length c.pieces.ensures.ends, length-field_ends 0 c.args.row.now)

pub put-requires-2 : goal.put-requires-2
put-requires-2 c = omega (arith, ap length c.pieces.ensures.ends, ap length c.pieces.ensures.fields, length-field_ends 0 c.args.row.now)
