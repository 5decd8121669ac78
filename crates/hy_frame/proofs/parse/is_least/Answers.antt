use Rattle.std.proofs.Common.{arith}
use Rattle.hy_frame.proofs.ParseLaws.{least_is}
use Rattle.hy_frame.proofs.parse.is_least.Goals as goal

pub returns-then-needed-size : goal.returns-then-needed-size
returns-then-needed-size c = least_is _ _ _ (omega arith) c.if-size-unit-ne0.false (omega arith)
