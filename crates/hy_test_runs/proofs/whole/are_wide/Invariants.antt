use Rattle.std.proofs.Common.{◌≡◌, length, take}
use Rattle.std.specs.List.{All}
use Rattle.hy_test_runs.proofs.whole.are_wide.Given as goal

abbrev pub invariant-loop-row : goal.invariant-loop-row
invariant-loop-row l = All (λ row. length row ≡ l.width) (take l.row-index l.rows)
