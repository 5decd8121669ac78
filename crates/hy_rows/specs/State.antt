-- What contracts see of a driver that gives the rows that it owes in order.
use Rattle.std.specs.Prelude.{◌+◌, ℕ, zero, suc, Bool, true, List, [], length}
use Rattle.hy_driver.specs.Rows.{Row, Fed}
use Rattle.hy_driver.specs.Seen.{Fixed, Seen, turns_in}
use Rattle.hy_driver.specs.Forms.{in_order, storeless}
use Rattle.hy_driver.specs.declared.phase.Phase.{Phase}

-- whether an input has ended where there are two; any other has
abbrev pub two_ended : Bool → Bool → ℕ → Bool
two_ended left right zero = left
two_ended left right (suc zero) = right
two_ended left right (suc (suc input)) = true

-- a driver that works in order, owes these rows, and holds none that it took
abbrev pub row_state : Fixed → (List Fed → List Row → Type 0) → (ℕ → Bool) → List Row → Phase → Seen
row_state fixed out ended owed phase = storeless (in_order ended fixed.width owed [] out) ended phase (length owed + turns_in phase) [] [] fixed
