use Rattle.std.proofs.Common.{take}
use Rattle.std.specs.List.{AllByRecursion}
use Rattle.hy_operator.proofs.More.{is_own_row}
use Rattle.hy_operator.proofs.given.are_rows.Given as goal

abbrev pub invariant-loop-buf : goal.invariant-loop-buf
invariant-loop-buf l = AllByRecursion is_own_row (take l.buf-index l.rows)
