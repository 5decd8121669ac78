use Rattle.std.proofs.Common.{take}
use Rattle.al_plain.specs.Rows.{AreDistinct}
use Rattle.al_plain.proofs.distinct.distinct_rows.Given as goal

abbrev pub invariant-loop-row : goal.invariant-loop-row
invariant-loop-row l = AreDistinct (take l.row-index l.rows) l.kept
