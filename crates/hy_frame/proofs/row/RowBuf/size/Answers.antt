use Rattle.std.proofs.Common.{ap, arith}
use Rattle.hy_frame.specs.Row.{row_size}
use Rattle.hy_frame.proofs.RowLaws.{size_is, ends_long, fields_short}
use Rattle.hy_frame.proofs.row.RowBuf.size.Goals as goal

pub returns-clause-size : goal.returns-clause-size
returns-clause-size c = omega (arith, size_is _ _ _ c.self.invariant.0, ap row_size c.self.view_is)

pub returns-clause-short : goal.returns-clause-short
returns-clause-short c = omega (arith, ends_long _ _ _ c.self.invariant.0, fields_short _ _ _ c.self.invariant.0)
