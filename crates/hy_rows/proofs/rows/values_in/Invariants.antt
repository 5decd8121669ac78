use Rattle.std.proofs.Common.{◌≡◌, take}
use Rattle.hy_driver.specs.Rows.{values_of}
use Rattle.hy_rows.proofs.rows.values_in.Given as goal

abbrev pub invariant-loop-j : goal.invariant-loop-j
invariant-loop-j l = l.values ≡ values_of (take l.j l.row)
